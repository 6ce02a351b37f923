-- The values before the index are of the addresses there.
use Rattle.ipnet_c.proofs.TableReplies.{AreValuesTo}
use Rattle.ipnet_c.proofs.tables.ipnet_table_longest_match_all.Given as goal

abbrev pub invariant-loop-index : goal.invariant-loop-index
invariant-loop-index l = AreValuesTo l.image.table.bytes.now l.addresses l.width l.missing l.index l.fn.values l.values
