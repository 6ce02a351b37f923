-- The first routes, as many as the index says, have their networks without host bits, and the others are as they were.
use Rattle.std.proofs.Common.{◌≡◌, ◌<◌, ◌≤◌, ℕ, length, get_or}
use Rattle.ipnet_base.specs.Network.{truncation}
use Rattle.ipnet.specs.declared.net.IpNet.{IpNet}
use Rattle.ipnet.specs.NetworkOf.{ip_network}
use Rattle.ipnet_routes.proofs.routes.truncate_all.Given as goal

abbrev pub invariant-loop-index : goal.invariant-loop-index
invariant-loop-index g l = record {
  size : length l.routes.items ≡ length l.fn.routes.items;
  networks : (k : ℕ) (d : IpNet × g.row.V.Denot) → k < l.index
      → ip_network (get_or l.routes.items k d).0 ≡ truncation (ip_network (get_or l.fn.routes.items k d).0);
  values : (k : ℕ) (d : IpNet × g.row.V.Denot) → k < l.index
      → (get_or l.routes.items k d).1 ≡ (get_or l.fn.routes.items k d).1;
  left : (k : ℕ) (d : IpNet × g.row.V.Denot) → l.index ≤ k
      → get_or l.routes.items k d ≡ get_or l.fn.routes.items k d;
}
