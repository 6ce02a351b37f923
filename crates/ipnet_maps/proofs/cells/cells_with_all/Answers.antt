use Rattle.std.proofs.Common.{◌↔◌}
use Rattle.std.proofs.lemmas.Result.{IfOk-weaker}
use Rattle.ipnet_base.specs.Address.{Address}
use Rattle.ipnet_sets.specs.Members.{IsMember, IsDifference}
use Rattle.ipnet_sets.proofs.ManyLaws.{both_ways}
use Rattle.ipnet_sets.proofs.SetEqualLaws.{member_or_not}
use Rattle.ipnet_bars.specs.Parts.{HasAll}
use Rattle.ipnet_maps.specs.Cells.{IsInCell}
use Rattle.ipnet_maps.proofs.CellLaws.{all_by_missing}
use Rattle.ipnet_maps.proofs.cells.cells_with_all.Goals as goal

pub returns : goal.returns
returns c =
    let some = c.in_ok-some.some in
    let missing = c.in_ok-missing.missing in
    let incomplete = c.in_ok-incomplete.incomplete in
    IfOk-weaker c.difference-2.result (λ s. IsDifference s some incomplete)
    (λ s. (x : Address) → IsMember s x ↔ IsInCell c.args.cell_len (HasAll (IsMember c.args.set.now)) x)
    (λ s h x. both_ways (h x)
    (all_by_missing (IsMember c.args.set.now) (IsMember some) (IsMember missing) (IsMember incomplete)
    c.args.cell_len (member_or_not c.args.set.now) c.in_ok-some.ensures c.in_ok-missing.ensures.members
    c.in_ok-incomplete.ensures x)) c.difference-2.ensures.members
