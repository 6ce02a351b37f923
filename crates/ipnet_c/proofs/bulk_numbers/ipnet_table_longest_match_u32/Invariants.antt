-- Each number before the index is the value for the address with its index.
use Rattle.ipnet_c.proofs.ColumnLaws.{AreRightTo, IsNumberValue}
use Rattle.ipnet_c.proofs.bulk_numbers.ipnet_table_longest_match_u32.Given as goal

abbrev pub invariant-loop-index : goal.invariant-loop-index
invariant-loop-index l =
    AreRightTo (IsNumberValue l.image.table.bytes.now l.addresses l.missing) l.index l.fn.values l.values
