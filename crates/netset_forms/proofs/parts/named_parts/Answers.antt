-- The part of each family.
use Rattle.std.proofs.Common.{subst}
use Rattle.ipnet_sets.specs.Members.{IsMember}
use Rattle.netset_forms.specs.FormSteps.{IsNamedText, MakesPart, named_items, named_layout}
use Rattle.netset_forms.proofs.PartLaws.{both_parts}
use Rattle.netset_forms.proofs.parts.named_parts.Goals as goal

pub returns-clause-parts : goal.returns-clause-parts
returns-clause-parts c =
    let k = c.args.commands in
    let six = IsMember c.in_ok-ipv6.ipv6 in
    both_parts (named_layout k.ipv4) (named_layout k.ipv6) (named_items k.ipv4) (IsMember c.args.set.now)
    (IsMember c.in_ok-ipv4.ipv4) six c.args.names c.args.min_length
    (record { first = c.in_ok-first.first; second = c.in_ok-second.second }) c.requires.fits
    c.in_ok-ipv4.ensures c.in_ok-ipv6.ensures c.in_ok-check_names.ensures.ipv4 c.in_ok-check_names.ensures.ipv6
    c.in_ok-first.ensures
    (subst (λ items. MakesPart (IsNamedText (named_layout k.ipv6) items c.args.names.ipv6 c.args.min_length six)
    c.args.min_length six c.in_ok-second.second) c.requires.same c.in_ok-second.ensures)
