-- Routes, route tables, and the longest match for an address (RFC 1812, section 5.2.4.3; RFC 4632, section 5.1).
use Rattle.std.specs.Prelude.{◌≡◌, ◌≢◌, ℕ, Bool, true, false, ◌<◌, ◌≤◌, ◌↔◌, List, map, length, slice_index_or}
use Rattle.std.specs.Prelude.{Contains, AllPairs}
use Rattle.std.specs.Borrow.{Bor}
use Rattle.ipnet_base.specs.Address.{Address}
use Rattle.ipnet_base.specs.Network.{Network, InBlock, IsSubnetOf, truncation}
use Rattle.ipnet_base.specs.Blocks.{IsAscending}
use Rattle.ipnet.specs.declared.net.IpNet.{IpNet}
use Rattle.ipnet.specs.NetworkOf.{ip_network}

-- A route: a network and its value, of any type. Example: 10.0.0.0/8 with the value 1.
abbrev pub Route : Type 0 → Type 0
Route V = Network × V

-- A reference to an `IpNet` with its value, as a route.
abbrev pub ip_route : {V : Type 0} → Bor (IpNet × V) → Route V
ip_route r = (ip_network r.now.0, r.now.1)

-- The networks of the routes: the first part of each pair.
-- Example: 10.0.0.0/8, 10.1.0.0/16 for 10.0.0.0/8 with 1, 10.1.0.0/16 with 2.
abbrev pub networks_of : {V : Type 0} → List (Route V) → List Network
networks_of routes = map (λ r. r.0) routes

-- The routes of a list of `IpNet`s with values.
abbrev pub ip_routes : {V : Type 0} → List (IpNet × V) → List (Route V)
ip_routes list = map (λ r. (ip_network r.0, r.1)) list

-- The networks of a list of `IpNet`s with values.
abbrev pub ip_networks : {V : Type 0} → List (IpNet × V) → List Network
ip_networks list = map (λ r. ip_network r.0) list

-- The routes with their networks truncated. Example: 10.0.0.7/8 with 3 becomes 10.0.0.0/8 with 3.
abbrev pub without_host_bits : {V : Type 0} → List (Route V) → List (Route V)
without_host_bits routes = map (λ r. (truncation r.0, r.1)) routes

-- The route is in the list, and no later route has the same network.
-- Example: in 10.0.0.0/8 with 1, 10.1.0.0/16 with 2, 10.0.0.0/8 with 3, the last two routes are.
pub record IsLatest {V : Type 0} (routes : List (Route V)) (route : Route V) : Type 0 where
  pub place : ℕ
  pub within : place < length routes
  pub is : slice_index_or routes place route ≡ route
  pub last : (later : ℕ) (d : Route V) → place < later → later < length routes
      → (slice_index_or routes later d).0 ≢ route.0

-- The table of a list of routes: truncated networks, ascending, each once, with the last value given for it.
-- Example: 10.0.0.0/8 with 1, 10.1.0.0/16 with 2, 10.0.0.7/8 with 3 has the table 10.0.0.0/8 with 3, 10.1.0.0/16 with
-- 2.
pub record IsTableOf {V : Type 0} (given routes : List (Route V)) : Type 0 where
  pub ascending : IsAscending (networks_of routes)
  pub members : (route : Route V) → Contains routes route ↔ IsLatest (without_host_bits given) route

-- The route with the longest prefix among the routes whose network contains the address.
-- Example: among 0.0.0.0/0, 10.0.0.0/8 and 10.1.0.0/16 it is 10.1.0.0/16 for 10.1.2.3, and 10.0.0.0/8 for 10.2.0.1.
pub record IsLongestMatch {V : Type 0} (routes : List (Route V)) (x : Address) (route : Route V) : Type 0 where
  pub member : Contains routes route
  pub holds : InBlock route.0 x
  pub longest : (other : Route V) → Contains routes other → InBlock other.0 x
      → other.0.prefix_len ≤ route.0.prefix_len

-- The route with the longest prefix among the routes whose network contains all addresses of `n`.
-- Example: among 0.0.0.0/0, 10.0.0.0/8 and 10.1.0.0/16 it is 10.1.0.0/16 for 10.1.0.0/16 and 10.1.2.0/24. It is
-- 10.0.0.0/8 for 10.0.0.0/15, which has addresses outside 10.1.0.0/16.
pub record IsLongestHolder {V : Type 0} (routes : List (Route V)) (n : Network) (route : Route V) : Type 0 where
  pub member : Contains routes route
  pub holds : IsSubnetOf n route.0
  pub longest : (other : Route V) → Contains routes other → IsSubnetOf n other.0
      → other.0.prefix_len ≤ route.0.prefix_len

-- The routes whose network contains the address: each of them once, the longest first.
-- Example: of 0.0.0.0/0, 10.0.0.0/8 and 10.1.0.0/16, they are 10.0.0.0/8 and 0.0.0.0/0 for 10.2.0.1.
pub record AreMatches {V : Type 0} (routes : List (Route V)) (x : Address) (matches : List (Route V)) : Type 0 where
  pub longest_first : AllPairs (λ r s. s.0.prefix_len < r.0.prefix_len) matches
  pub members : (route : Route V) → Contains matches route ↔ (Contains routes route × InBlock route.0 x)

-- The routes whose block lies in the block of `n`, in the order of their networks.
-- Example: of 0.0.0.0/0, 10.0.0.0/8, 10.1.0.0/16 and 11.0.0.0/8, they are the middle two for 10.0.0.0/8.
pub record AreWithin {V : Type 0} (routes : List (Route V)) (n : Network) (within : List (Route V)) : Type 0 where
  pub ascending : IsAscending (networks_of within)
  pub members : (route : Route V) → Contains within route ↔ (Contains routes route × IsSubnetOf route.0 n)

-- The routes of the first list that the other lacks, in the order of their networks: the other does not have the
-- network, or `same` is false for its value there.
-- Example: 10.0.0.0/8 with 1 lacks 10.0.0.0/8 with 3 and 11.0.0.0/8 with 1, if `same` is equality.
pub record AreLacking {V : Type 0} (same : V → V → Bool) (routes other lacking : List (Route V)) : Type 0 where
  pub ascending : IsAscending (networks_of lacking)
  pub members : (route : Route V) → Contains lacking route
      ↔ (Contains routes route × ((w : V) → Contains other (route.0, w) → same w route.1 ≡ false))

-- The changes from an old list of routes to a new one: the routes whose network the new list lacks are removed, and the
-- routes are put whose network the old list lacks, or has with a value that is not equal by `eq`.
-- Example: from 10.0.0.0/8 with 1 and 10.1.0.0/16 with 2 to 10.0.0.0/8 with 3, 10.1.0.0/16 with 2 is removed, and
-- 10.0.0.0/8 with 3 is put.
pub record AreChanges {V : Type 0} (eq : V → V → Bool) (old new removed put : List (Route V)) : Type 0 where
  pub removes : AreLacking (λ w v. true) old new removed
  pub puts : AreLacking eq new old put
