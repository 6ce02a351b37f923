-- The rows before the index are truncated, and the others are what they were.
use Rattle.ipnet_c.proofs.ChangedRows.{AreTruncatedTo}
use Rattle.ipnet_c.proofs.bulk_rows.ipnet_truncate_rows.Given as goal

abbrev pub invariant-loop-index : goal.invariant-loop-index
invariant-loop-index l =
    AreTruncatedTo l.ipv4_length l.ipv6_length l.index l.families l.fn.octets l.octets
