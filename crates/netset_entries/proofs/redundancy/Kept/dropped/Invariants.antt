-- The dropped entries before the place.
use Rattle.std.proofs.Common.{map}
use Rattle.netset_entries.specs.EntryLineOf.{numbered}
use Rattle.netset_entries.specs.Covers.{IsCoveredWithin}
use Rattle.netset_entries.proofs.RedundancyLaws.{AreDroppedTo}
use Rattle.netset_entries.proofs.redundancy.Kept.dropped.Given as goal

abbrev pub invariant-loop-place : goal.invariant-loop-place
invariant-loop-place l = record {
  within : IsCoveredWithin l.self l.covered.items;
  dropped : AreDroppedTo (map numbered l.lines) l.self l.place l.covered.items;
}
