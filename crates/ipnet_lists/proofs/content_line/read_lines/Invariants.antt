use Rattle.std.proofs.Common.{length}
use Rattle.ipnet_lists.specs.ContentLines.{OrBroken}
use Rattle.ipnet_lists.specs.Lists.{after_mark}
use Rattle.ipnet_lists.proofs.ContentLaws.{AreTakenBefore}
use Rattle.ipnet_lists.proofs.content_line.read_lines.Given as goal

-- the lines before the rest are taken
abbrev pub invariant-lines : goal.invariant-lines
invariant-lines g l =
    AreTakenBefore (g.H.LineHandler.takes l.fn.handler)
    (OrBroken (g.H.LineHandler.broken l.fn.handler) (g.H.LineHandler.is_cause l.fn.handler)) (after_mark l.fn.bytes)
    l.fn.made l.number l.rest l.made l.refused

abbrev pub decreases-lines : goal.decreases-lines
decreases-lines g l = length l.rest
