-- Each turn writes the value for one address more.
use Rattle.std.proofs.Common.{arith}
use Rattle.ipnet_c.proofs.ColumnLaws.{right_more, IsNumberValue}
use Rattle.ipnet_c.proofs.bulk_numbers.ipnet_table_longest_match_u32.Goals as goal

pub loop-index-preserved : goal.loop-index-preserved
loop-index-preserved c =
    right_more (IsNumberValue c.in-Ok.image.table.bytes.now c.args.addresses.now c.args.missing) c.loop-index.index
    c.args.values.now c.loop-index.values c.number_value.result c.loop-index.invariant
    (omega (arith, c.loop-index-test.true, c.loop-index.auto.values)) c.number_value.ensures
