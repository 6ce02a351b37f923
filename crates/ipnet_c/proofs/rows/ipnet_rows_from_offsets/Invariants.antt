-- The rows before the index are read.
use Rattle.ipnet_c.specs.TextRows.{text_at}
use Rattle.ipnet_c.proofs.TextRowReplies.{AreRowsTo}
use Rattle.ipnet_c.proofs.rows.ipnet_rows_from_offsets.Given as goal

abbrev pub invariant-loop-index : goal.invariant-loop-index
invariant-loop-index l =
    AreRowsTo (text_at l.text l.width l.offsets) l.index l.fn.families l.fn.octets l.families l.octets l.count
