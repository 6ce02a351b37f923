-- The rows so far are found.
use Rattle.std.proofs.Common.{drop}
use Rattle.ipnet.specs.NetworkOf.{ip_network}
use Rattle.ipnet_info.specs.RegistryRows.{blocks_of, purposes_of}
use Rattle.ipnet_info.proofs.RegistryLaws.{FoundBefore}
use Rattle.ipnet_info.proofs.purposes.push_purposes.Given as goal

abbrev pub invariant-loop-row : goal.invariant-loop-row
invariant-loop-row l =
    let n = ip_network l.network in
    FoundBefore n (blocks_of n.family l.rows) (blocks_of n.family (drop l.row-index l.rows))
    (purposes_of l.fn.purposes.items) (purposes_of l.purposes.items)
