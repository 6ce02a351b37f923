use Rattle.std.proofs.Common.{◌↔◌, length, Any}
use Rattle.ipnet.specs.Lines.{lines_of}
use Rattle.ipnet_lists.specs.ContentLines.{IsSomeLine}
use Rattle.ipnet_lists.specs.Lists.{after_mark}
use Rattle.ipnet_lists.proofs.content_line.has_lines.Given as goal

-- the lines before the rest are empty
abbrev pub invariant-lines : goal.invariant-lines
invariant-lines l = Any IsSomeLine (lines_of (after_mark l.fn.bytes)) ↔ Any IsSomeLine (lines_of l.rest)

abbrev pub decreases-lines : goal.decreases-lines
decreases-lines l = length l.rest
