use Rattle.std.proofs.Common.{sym, ◌∙◌}
use Rattle.ipnet_sets.proofs.SetEqualLaws.{equal_by_addresses}
use Rattle.netset_entries.proofs.pairs.is_same.Goals as goal

pub returns : goal.returns
returns c =
    let same = equal_by_addresses c.args.set.now c.args.other.now in
    (λ t. same.0 (sym c.eq.ensures ∙ t), λ h. c.eq.ensures ∙ same.1 h)
