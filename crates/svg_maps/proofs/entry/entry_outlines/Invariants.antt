-- The outlines of the first i entries.
use Rattle.std.proofs.Common.{take}
use Rattle.ipnet.specs.NetworkOf.{ip_network}
use Rattle.svg_maps.specs.EntryOutlines.{AreEntryOutlines}
use Rattle.svg_maps.proofs.entry.entry_outlines.Given as goal

abbrev pub invariant-loop-entry : goal.invariant-loop-entry
invariant-loop-entry l =
    AreEntryOutlines (take l.entry-index l.entries) l.counted (ip_network l.frame) l.depth l.outlines.items
