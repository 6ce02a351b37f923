-- The table was asked for the network of the row.
use Rattle.std.proofs.Common.{refl}
use Rattle.ipnet.specs.NetworkOf.{ip_network}
use Rattle.ipnet_origins.specs.OriginsOf.{payloads_of}
use Rattle.ipnet_c.specs.OriginReplies.{columns}
use Rattle.ipnet_c.proofs.OriginReplies.{row_answered, row_unanswered}
use Rattle.ipnet_c.proofs.origins.row_validity.Goals as goal

pub returns-in-Some : goal.returns-in-Some
returns-in-Some c =
    let rows = c.args.rows.now in
    row_answered (payloads_of c.args.table.now)
    (columns rows.families.now rows.octets.now rows.lengths.now rows.asns.now) c.args.index c.byte_of.result
    (ip_network c.in-Some.network) c.validity.result c.in-Some.ensures.some c.validity.ensures c.byte_of.ensures

pub returns-in-None : goal.returns-in-None
returns-in-None c =
    let rows = c.args.rows.now in
    row_unanswered (payloads_of c.args.table.now)
    (columns rows.families.now rows.octets.now rows.lengths.now rows.asns.now) c.args.index
    (λ n row. c.in-None.ensures.none refl n row)
