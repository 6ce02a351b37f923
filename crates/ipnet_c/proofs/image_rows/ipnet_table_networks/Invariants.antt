-- The rows before the index are the networks of the routes there.
use Rattle.ipnet_c.specs.ImageRows.{network_rows}
use Rattle.ipnet_c.proofs.ImageRowReplies.{AreNetworksTo}
use Rattle.ipnet_c.proofs.image_rows.ipnet_table_networks.Given as goal

abbrev pub invariant-loop-index : goal.invariant-loop-index
invariant-loop-index l =
    AreNetworksTo l.image.table.bytes.now l.start l.index (network_rows l.fn.families l.fn.octets l.fn.lengths)
    (network_rows l.families l.octets l.lengths)
