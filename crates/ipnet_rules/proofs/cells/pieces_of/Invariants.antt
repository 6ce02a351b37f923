-- The pieces so far and the ranges that are left have the addresses.
use Rattle.ipnet_sets.specs.RangesLeft.{ranges_left}
use Rattle.ipnet_rules.specs.Cells.{family_of}
use Rattle.ipnet_rules.proofs.CellLaws.{AreGathered}
use Rattle.ipnet_rules.proofs.cells.pieces_of.Given as goal

abbrev pub invariant-loop-range : goal.invariant-loop-range
invariant-loop-range l = AreGathered (family_of l.family) l.addresses l.pieces.items (ranges_left l.range-iterator)
