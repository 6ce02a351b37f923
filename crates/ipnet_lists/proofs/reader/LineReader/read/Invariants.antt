use Rattle.std.proofs.Common.{length}
use Rattle.ipnet_lists.proofs.ListReading.{AreReadUpTo}
use Rattle.ipnet_lists.proofs.reader.LineReader.read.Given as goal

-- the lines up to the rest were read
abbrev pub invariant-lines : goal.invariant-lines
invariant-lines g l =
    AreReadUpTo l.fn.self l.self l.fn.bytes l.rest (g.C.Collector.is_made l.fn.collector l.fn.made)
    (g.C.Collector.is_made l.fn.collector l.made)

abbrev pub decreases-lines : goal.decreases-lines
decreases-lines g l = length l.rest
