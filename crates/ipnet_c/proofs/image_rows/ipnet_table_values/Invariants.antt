-- The values before the index are of the routes there.
use Rattle.std.proofs.Common.{◌+◌}
use Rattle.ipnet_c.specs.ImageRows.{IsValueOfRoute}
use Rattle.ipnet_c.proofs.ColumnLaws.{AreRightTo}
use Rattle.ipnet_c.proofs.image_rows.ipnet_table_values.Given as goal

abbrev pub invariant-loop-index : goal.invariant-loop-index
invariant-loop-index l =
    AreRightTo (λ i value. IsValueOfRoute l.image.table.bytes.now (l.start + i) value) l.index l.fn.values l.values
