-- The networks of each family, without one of prefix length 0.
use Rattle.std.proofs.Common.{subst, sym, IfOk}
use Rattle.ipnet_base.specs.Address.{IPv4, IPv6}
use Rattle.ipnet_sets.specs.Members.{IsMember}
use Rattle.netset_forms.specs.Forms.{ipset_kind, plain_items, AreFamilyTexts, FitsFamilies}
use Rattle.netset_forms.specs.FormSteps.{MakeParts}
use Rattle.netset_forms.specs.Layouts.{ipset_layout}
use Rattle.netset_forms.proofs.PartLaws.{fits_one}
use Rattle.netset_forms.proofs.parts.ipset_parts.Goals as goal

pub named_parts-requires-clause-fits : goal.named_parts-requires-clause-fits
named_parts-requires-clause-fits c =
    let S = IsMember c.args.set.now in
    subst (FitsFamilies S) (sym c.max.ensures) (fits_one S c.args.min_length c.requires)

pub returns-clause-parts : goal.returns-clause-parts
returns-clause-parts c =
    subst (λ m. IfOk c.named_parts.result (MakeParts (AreFamilyTexts (ipset_layout (ipset_kind c.args.most IPv4))
    (ipset_layout (ipset_kind c.args.most IPv6)) plain_items c.args.names m (IsMember c.args.set.now)))) c.max.ensures
    c.named_parts.ensures.parts
