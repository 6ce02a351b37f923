-- The private steps of a map of routes: its chunks, a place in them, and the last route up to a network.
-- Only private contracts use these.
use Rattle.std.specs.Prelude.{◌≡◌, ℕ, ◌+◌, ◌/◌, ◌^◌, ◌<◌, ◌⊎◌, List, [], ◌∷◌, length, map, take, drop}
use Rattle.std.specs.Prelude.{Contains, All, Vec}
use Rattle.std.specs.Prelude.{Bool, ◌&&◌, ◌++◌, Option, Some, None, nat_eq, nat_le, if◌then◌else◌}
use Rattle.std.specs.List.{flat_map, insert}
use Rattle.std.specs.declared.alloc.Global.{Global}
use Rattle.ipnet_base.specs.Address.{IPv4, family_index}
use Rattle.ipnet_base.specs.Network.{Network, IsBefore, host_bits}
use Rattle.ipnet_base.specs.Stack.{IsBeforeOrEqual}
use Rattle.ipnet.specs.declared.net.IpNet.{IpNet}
use Rattle.ipnet.specs.NetworkOf.{ip_network}
use Rattle.ipnet_routes.specs.Routes.{Route, ip_routes, ip_networks}
use Rattle.ipnet_routes.specs.RouteSteps.{IsPlaceAfter}

-- A chunk: a list of routes that are next to each other in the map.
abbrev pub Chunk : Type 0 → Type 0
Chunk V = Vec (IpNet × V) Global

-- The routes of the chunks, one chunk after the other.
abbrev pub all_of : {V : Type 0} → List (Chunk V) → List (IpNet × V)
all_of chunks = flat_map (λ c. c.items) chunks

-- Each chunk has a route.
abbrev pub AreFilled : {V : Type 0} → List (Chunk V) → Type 0
AreFilled chunks = All (λ c. 0 < length c.items) chunks

-- The network of the first route; any network if there is none.
abbrev pub first_network : {V : Type 0} → List (IpNet × V) → Network
first_network [] = record { family = IPv4; number = 0; prefix_len = 0 }
first_network (r ∷ rs) = ip_network r.0

-- The first network of each chunk.
abbrev pub firsts_of : {V : Type 0} → List (Chunk V) → List Network
firsts_of chunks = map (λ c. first_network c.items) chunks

-- The routes of the chunk at an index; none if there is no such chunk.
abbrev pub chunk_at : {V : Type 0} → List (Chunk V) → ℕ → List (IpNet × V)
chunk_at chunks i = all_of (take 1 (drop i chunks))

-- How many routes are before the route at an index of a chunk.
-- Example: with chunks of 3 and 2 routes, the route at index 1 of the second chunk has 4 before it.
abbrev pub position_of : {V : Type 0} → List (Chunk V) → ℕ → ℕ → ℕ
position_of chunks chunk index = length (all_of (take chunk chunks)) + index

-- The route is the last of those whose network is `n` or comes before it.
pub record IsLastUpTo {V : Type 0} (routes : List (IpNet × V)) (n : Network) (route : Route V) : Type 0 where
  pub member : Contains (ip_routes routes) route
  pub up_to : IsBeforeOrEqual route.0 n
  pub last : (k : Network) → Contains (ip_networks routes) k → IsBeforeOrEqual k route.0 ⊎ IsBefore n k

-- The new list is the old one with the route at the place after the networks that come before it.
pub record IsInsertedInOrder {V : Type 0} (old : List (IpNet × V)) (route : IpNet × V) (new : List (IpNet × V)) : Type 0
  where
    pub place : ℕ
    pub after : IsPlaceAfter (ip_networks old) (ip_network route.0) place
    pub inserted : new ≡ insert old place route

-- The block of `k` contains the block of `n`, as a test of their numbers.
-- Example: true for 10.0.0.0/8 and 10.1.0.0/16.
abbrev pub holds_block : Network → Network → Bool
holds_block k n =
    nat_eq (family_index n.family) (family_index k.family)
    && (nat_le k.prefix_len n.prefix_len && nat_eq (n.number / 2 ^ host_bits k) (k.number / 2 ^ host_bits k))

-- The routes whose block contains the block of `n`, the last of the list first.
-- Example: of 0.0.0.0/0, 10.0.0.0/8 and 10.1.0.0/16, for 10.2.0.0/16: 10.0.0.0/8 and 0.0.0.0/0.
abbrev pub holders : {V : Type 0} → List (Route V) → Network → List (Route V)
holders [] n = []
holders (r ∷ rs) n = holders rs n ++ (if holds_block r.0 n then r ∷ [] else [])

-- The holders of a network; none if there is no network.
abbrev pub holders_of : {V : Type 0} → List (Route V) → Option IpNet → List (Route V)
holders_of routes None = []
holders_of routes (Some n) = holders routes (ip_network n)
