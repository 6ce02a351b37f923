-- Each byte before the index is the answer for the row with its index.
use Rattle.ipnet_c.proofs.ColumnLaws.{AreRightTo, IsAnswerForRow}
use Rattle.ipnet_c.proofs.bulk_rows.ipnet_set_contains_rows.Given as goal

abbrev pub invariant-loop-index : goal.invariant-loop-index
invariant-loop-index l =
    AreRightTo (IsAnswerForRow l.image.bytes.now l.families l.octets) l.index l.fn.answers l.answers
