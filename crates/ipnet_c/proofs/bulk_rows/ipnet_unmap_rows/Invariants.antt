-- The rows before the index are unmapped, and the others are what they were.
use Rattle.ipnet_c.proofs.ChangedRows.{AreUnmappedTo}
use Rattle.ipnet_c.proofs.bulk_rows.ipnet_unmap_rows.Given as goal

abbrev pub invariant-loop-index : goal.invariant-loop-index
invariant-loop-index l =
    AreUnmappedTo l.index l.fn.families l.fn.octets l.families l.octets
