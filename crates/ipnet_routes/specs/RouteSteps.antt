-- The private steps of a route table: its order, the search in it, and the link from each network to the nearest
-- network that contains it.
-- Only private contracts use these.
use Rattle.std.specs.Prelude.{◌≡◌, ◌≢◌, ℕ, zero, suc, ◌+◌, ◌<◌, ◌≤◌, ◌↔◌, List, [], ◌∷◌, ◌++◌, length, get_or}
use Rattle.std.specs.Prelude.{Bool, true, false, take, drop}
use Rattle.std.specs.Prelude.{Contains, All, AllPairs}
use Rattle.ipnet_base.specs.Network.{Network, IsSubnetOf, IsTruncated, IsBefore}
use Rattle.ipnet_base.specs.Stack.{IsBeforeOrEqual}
use Rattle.ipnet.specs.declared.net.IpNet.{IpNet}
use Rattle.ipnet_routes.specs.Routes.{Route, ip_networks}

-- The network is the last of the list.
abbrev pub EndsWith : List Network → Network → Type 0
EndsWith networks n = (front : List Network) × (networks ≡ front ++ n ∷ [])

-- The new list has the routes of the old list, except the routes of the network `n`.
abbrev pub AreOthers : {V : Type 0} → List (Route V) → Network → List (Route V) → Type 0
AreOthers {V} old n new = (other : Route V) → Contains new other ↔ (Contains old other × (other.0 ≢ n))

-- The networks are truncated, ascending, each once. The order is stated as "no later network is before or equal",
-- because a field of a type may have only one proof.
pub record IsTable (networks : List Network) : Type 0 where
  pub truncated : All IsTruncated networks
  pub ascending : AllPairs (λ n k. ¬ (IsBeforeOrEqual k n)) networks

-- The index splits the list: the networks before it come before `n` or equal it, and the networks from it on come after
-- `n`.
pub record IsPlaceAfter (networks : List Network) (n : Network) (place : ℕ) : Type 0 where
  pub within : place ≤ length networks
  pub up_to : (k : Network) (c : Contains networks k) → c.0 < place → IsBeforeOrEqual k n
  pub above : (k : Network) (c : Contains networks k) → place ≤ c.0 → IsBefore n k

-- One more than the index of the last network before `limit` whose block contains the block of `n`; 0 if there is none.
-- Example: in 10.0.0.0/8, 10.1.0.0/16, 10.2.0.0/16 it is 1 for 10.2.0.0/16 and limit 2.
pub record IsNearest (networks : List Network) (n : Network) (limit place : ℕ) : Type 0 where
  pub within : place ≤ limit
  pub holds : (k : Network) (c : Contains networks k) → c.0 + 1 ≡ place → IsSubnetOf n k
  pub nearest : (k : Network) (c : Contains networks k) → c.0 < limit → IsSubnetOf n k → c.0 < place

-- Each link is `IsNearest` for the network at its index: one more than the index of the smallest network that contains
-- it.
pub record AreLinks (networks : List Network) (links : List ℕ) : Type 0 where
  pub within : length links ≤ length networks
  pub nearest : (n : Network) (c : Contains networks n) (d : ℕ) → c.0 < length links
      → IsNearest networks n c.0 (get_or links c.0 d)

-- The index splits the list: the networks before it come before `n`, and `n` comes before the others or equals one.
pub record IsPlaceOf (networks : List Network) (n : Network) (place : ℕ) : Type 0 where
  pub within : place ≤ length networks
  pub before : (k : Network) (c : Contains networks k) → c.0 < place → IsBefore k n
  pub from : (k : Network) (c : Contains networks k) → place ≤ c.0 → IsBeforeOrEqual n k

-- The routes on the way from a place along the links, at most `steps` of them: the route just before the place, and
-- then the routes on the way from the link of that route. A place 0 ends the way.
-- Example: for 10.0.0.0/8 (link 0), 10.1.0.0/16 (link 1), 10.2.0.0/16 (link 1), the way from 3 is the last and the
-- first.
abbrev pub linked : {V : Type 0} → ℕ → List (Route V) → List ℕ → ℕ → List (Route V)
linked zero routes links place = []
linked (suc steps) routes links zero = []
linked (suc steps) routes links (suc i) = take 1 (drop i routes) ++ linked steps routes links (get_or links i 0)

-- The new list has the networks of the old list in their order, each with a value that `made` relates to its old value.
pub record AreChanged {V W : Type 0} (made : V → W → Type 0) (old : List (IpNet × V)) (new : List (IpNet × W)) : Type 0
  where
    pub size : length new ≡ length old
    pub networks : ip_networks new ≡ ip_networks old
    pub values : (i : ℕ) (d : IpNet × V) (e : IpNet × W) → i < length old → made (get_or old i d).1 (get_or new i e).1

-- Whether two values count as the same: by `eq` if values count, else always.
abbrev pub same_value : {V : Type 0} → Bool → (V → V → Bool) → V → V → Bool
same_value true eq w v = eq w v
same_value false eq w v = true
