-- Each cell has the owner that it has among the rules before the place.
use Rattle.std.proofs.Common.{◌≡◌, length}
use Rattle.ipnet_rules.specs.Cells.{family_of, AreSkips, AreOwnersBefore}
use Rattle.ipnet_rules.proofs.cells.cells_of.Given as goal

abbrev pub invariant-loop-place : goal.invariant-loop-place
invariant-loop-place l = AreSkips l.painting × (length l.painting.owners.items ≡ length l.cuts.items)
    × (l.painting.free ≡ length l.rules)
    × AreOwnersBefore (family_of l.family) l.rules l.cuts.items l.place (length l.rules) l.painting.owners.items
