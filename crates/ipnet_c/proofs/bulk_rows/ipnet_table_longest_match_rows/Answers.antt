-- Each turn writes the value for one row more.
use Rattle.std.proofs.Common.{get_or, subst, arith}
use Rattle.ipnet_c.specs.RowReplies.{IsRowValue}
use Rattle.ipnet_c.proofs.ColumnLaws.{right_more, IsValueForRow}
use Rattle.ipnet_c.proofs.RowLaws.{row_part}
use Rattle.ipnet_c.proofs.bulk_rows.ipnet_table_longest_match_rows.Goals as goal

pub loop-index-preserved : goal.loop-index-preserved
loop-index-preserved c =
    right_more (IsValueForRow c.in-Ok.image.table.bytes.now c.args.families.now c.args.octets.now c.args.missing)
    c.loop-index.index c.args.values.now c.loop-index.values c.row_value.result c.loop-index.invariant
    (omega (arith, c.loop-index-test.true, c.loop-index.auto.values))
    (subst (λ z. IsRowValue c.in-Ok.image.table.bytes.now (get_or c.args.families.now c.loop-index.index 0) z
    c.args.missing c.row_value.result) (row_part c.args.octets.now c.loop-index.index) c.row_value.ensures)
