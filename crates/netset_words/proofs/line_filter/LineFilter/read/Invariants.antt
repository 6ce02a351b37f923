use Rattle.std.proofs.Common.{length}
use Rattle.netset_words.specs.FilterSteps.{ReadsUpTo}
use Rattle.netset_words.proofs.line_filter.LineFilter.read.Given as goal

-- the bytes before the rest were read
abbrev pub invariant-pieces : goal.invariant-pieces
invariant-pieces l = ReadsUpTo l.fn.self l.self l.fn.bytes l.rest

abbrev pub decreases-pieces : goal.decreases-pieces
decreases-pieces l = length l.rest
