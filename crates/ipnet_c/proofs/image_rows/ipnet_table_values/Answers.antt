-- Each turn writes the value of one route more.
use Rattle.std.proofs.Common.{◌+◌, arith}
use Rattle.ipnet_c.specs.ImageRows.{IsValueOfRoute}
use Rattle.ipnet_c.proofs.ColumnLaws.{right_more}
use Rattle.ipnet_c.proofs.image_rows.ipnet_table_values.Goals as goal

pub loop-index-preserved : goal.loop-index-preserved
loop-index-preserved c =
    right_more (λ i value. IsValueOfRoute c.in-Ok.image.table.bytes.now (c.args.start + i) value) c.loop-index.index
    c.args.values.now c.loop-index.values c.value_of.result c.loop-index.invariant
    (omega (arith, c.loop-index-test.true, c.loop-index.auto.values)) c.value_of.ensures
