-- The line ends before the byte are counted.
use Rattle.ipnet_c.proofs.LineTexts.{AreCounted}
use Rattle.ipnet_c.proofs.rows.count_line_ends.Given as goal

abbrev pub invariant-loop-byte : goal.invariant-loop-byte
invariant-loop-byte l = AreCounted l.text l.byte-index l.count
