-- Each turn unmaps one row more.
use Rattle.ipnet_c.proofs.ChangedRows.{unmapped_more}
use Rattle.ipnet_c.proofs.bulk_rows.ipnet_unmap_rows.Goals as goal

pub loop-index-preserved : goal.loop-index-preserved
loop-index-preserved c =
    unmapped_more c.loop-index.index c.args.families.now c.args.octets.now c.loop-index.families c.loop-index.octets
    c.unmap_row.new.families c.unmap_row.new.octets c.loop-index.invariant c.unmap_row.ensures.as_many
    c.unmap_row.ensures.as_many_octets c.unmap_row.ensures.unmapped c.unmap_row.ensures.others
    c.unmap_row.ensures.other_octets
