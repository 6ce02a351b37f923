-- The lists permit the same networks of each shorter length.
use Rattle.std.proofs.Common.{ℕ, ◌<◌, ◌≤◌, ◌↔◌}
use Rattle.ipnet_base.specs.Address.{Address, IsAddress, width}
use Rattle.ipnet.specs.NetworkParts.{network_at}
use Rattle.ipnet_rules.specs.PrefixLists.{IsRoutePermitted}
use Rattle.ipnet_rules.proofs.prefix_list.PrefixList.first_difference.Given as goal

abbrev pub invariant-loop-prefix_len : goal.invariant-loop-prefix_len
invariant-loop-prefix_len l = (len : ℕ) → len < l.prefix_len → (x : Address) → IsAddress x → len ≤ width x.family
    → IsRoutePermitted l.fn.self.list.items (network_at x len)
    ↔ IsRoutePermitted l.fn.other.list.items (network_at x len)
