-- The payloads so far are the payloads of the rows.
use Rattle.ipnet_c.specs.OriginReplies.{columns, ArePayloadsOfRows}
use Rattle.ipnet_c.proofs.origins.read_payloads.Given as goal

abbrev pub invariant-loop-index : goal.invariant-loop-index
invariant-loop-index l =
    ArePayloadsOfRows (columns l.rows.families.now l.rows.octets.now l.rows.lengths.now l.rows.asns.now) l.max_lens
    l.index l.payloads.items
