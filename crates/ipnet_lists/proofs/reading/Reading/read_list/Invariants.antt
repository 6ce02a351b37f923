use Rattle.ipnet_lists.specs.Reading.{at_first_line}
use Rattle.ipnet_lists.proofs.WindowReading.{IsListUpTo}
use Rattle.ipnet_lists.proofs.reading.Reading.read_list.Given as goal

-- the list was read up to what is pending
abbrev pub invariant-loop : goal.invariant-loop
invariant-loop g l =
    IsListUpTo l.more (g.R.Read.remaining l.fn.input) (g.R.Read.remaining l.input)
    (at_first_line l.fn.self.lines) l.self (g.C.Collector.is_made l.fn.collector l.fn.made)
    (g.C.Collector.is_made l.fn.collector l.made)
