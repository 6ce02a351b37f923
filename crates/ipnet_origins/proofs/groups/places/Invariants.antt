-- The first payloads have their places.
use Rattle.std.proofs.Common.{◌≡◌, ℕ, ◌<◌, get_or, length}
use Rattle.ipnet.specs.declared.net.IpNet.{IpNet}
use Rattle.ipnet.specs.NetworkOf.{ip_network}
use Rattle.ipnet_origins.specs.declared.payload.Payload.{Payload}
use Rattle.ipnet_origins.specs.Groups.{network_of}
use Rattle.ipnet_origins.proofs.groups.places.Given as goal

abbrev pub invariant-loop-index : goal.invariant-loop-index
invariant-loop-index l = record {
  size : length l.routes.items ≡ l.index;
  networks : (i : ℕ) (d : IpNet × ℕ) (e : Payload) → i < l.index
      → ip_network (get_or l.routes.items i d).0 ≡ network_of (get_or l.payloads i e);
  places : (i : ℕ) (d : IpNet × ℕ) → i < l.index → (get_or l.routes.items i d).1 ≡ i;
}
