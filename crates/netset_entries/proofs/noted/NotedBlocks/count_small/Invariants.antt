-- The networks that are not left are too small.
use Rattle.std.proofs.Common.{◌≤◌, ◌⊎◌, Contains}
use Rattle.ipnet_base.specs.Blocks.{IsMaximal}
use Rattle.ipnet_base.specs.Network.{Network}
use Rattle.ipnet.specs.SubnetsLeft.{ip_subnets_left}
use Rattle.ipnet_sets.specs.SetRanges.{IsInRange}
use Rattle.ipnet_lists.specs.EntryOf.{entry_range}
use Rattle.netset_entries.specs.NoteSteps.{largest_of}
use Rattle.netset_entries.proofs.noted.NotedBlocks.count_small.Given as goal

abbrev pub invariant-loop-network : goal.invariant-loop-network
invariant-loop-network l = (n : Network) → IsMaximal (IsInRange (entry_range l.fn.entry)) 0 n
    → Contains (ip_subnets_left l.network-iterator) n ⊎ ((largest_of n.family l.self).end ≤ n.prefix_len)
