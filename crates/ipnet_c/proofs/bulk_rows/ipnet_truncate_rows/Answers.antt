-- Each turn truncates one row more.
use Rattle.ipnet_c.proofs.ChangedRows.{truncated_more}
use Rattle.ipnet_c.proofs.bulk_rows.ipnet_truncate_rows.Goals as goal

pub loop-index-preserved : goal.loop-index-preserved
loop-index-preserved c =
    truncated_more c.args.ipv4_length c.args.ipv6_length c.loop-index.index c.args.families.now c.args.octets.now
    c.loop-index.octets c.truncate_row.new.octets c.loop-index.invariant c.truncate_row.ensures.as_many
    c.truncate_row.ensures.truncated c.truncate_row.ensures.others
