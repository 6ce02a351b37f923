-- The rows so far are payloads.
use Rattle.ipnet_c.specs.OriginReplies.{columns, AreGoodRows}
use Rattle.ipnet_c.proofs.origins.first_bad_row.Given as goal

abbrev pub invariant-loop-index : goal.invariant-loop-index
invariant-loop-index l =
    AreGoodRows (columns l.rows.families.now l.rows.octets.now l.rows.lengths.now l.rows.asns.now) l.max_lens l.index
