-- The rows before the index are read, and the other lines are left.
use Rattle.ipnet_c.proofs.TextRowReplies.{AreLinesLeft}
use Rattle.ipnet_c.proofs.rows.ipnet_rows_from_lines.Given as goal

abbrev pub invariant-loop-index : goal.invariant-loop-index
invariant-loop-index l = AreLinesLeft l.text l.rest l.index l.fn.families l.fn.octets l.families l.octets l.count
