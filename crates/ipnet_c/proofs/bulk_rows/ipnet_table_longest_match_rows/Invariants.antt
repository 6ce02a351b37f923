-- Each number before the index is the value for the row with its index.
use Rattle.ipnet_c.proofs.ColumnLaws.{AreRightTo, IsValueForRow}
use Rattle.ipnet_c.proofs.bulk_rows.ipnet_table_longest_match_rows.Given as goal

abbrev pub invariant-loop-index : goal.invariant-loop-index
invariant-loop-index l =
    AreRightTo (IsValueForRow l.image.table.bytes.now l.families l.octets l.missing) l.index l.fn.values l.values
