-- The networks that are left are blocks of the entry, and the others were noted, unless they are too small.
use Rattle.std.proofs.Common.{◌≡◌, ℕ, List, Contains, string_bytes}
use Rattle.ipnet_base.specs.Network.{Network}
use Rattle.ipnet.specs.SubnetsLeft.{ip_subnets_left}
use Rattle.netset_entries.specs.NotedEntries.{IsTitledBlock}
use Rattle.netset_entries.proofs.NotedBlockLaws.{ReadsPart}
use Rattle.netset_entries.proofs.noted.NotedBlocks.note_entry.Given as goal

abbrev pub invariant-loop-network : goal.invariant-loop-network
invariant-loop-network l = record {
  left : (n : Network) → Contains (ip_subnets_left l.network-iterator) n
      → IsTitledBlock l.fn.self.grammar n (string_bytes l.title) l.line;
  one : (n : Network) → (other : List ℕ) → IsTitledBlock l.fn.self.grammar n other l.line
      → other ≡ string_bytes l.title;
  reads : ReadsPart l.fn.self l.self l.line (ip_subnets_left l.network-iterator);
}
