-- Blocks, and the values with which they need the fewest routes.
-- Only private contracts use these.
-- A list of routes has a value beside it: the value of the addresses without a match. The value 0 is for no value.
use Rattle.std.specs.Prelude.{◌≡◌, ◌≢◌, ℕ, ◌+◌, ◌<◌, ◌≤◌, ◌⊎◌, ◌↔◌, Bool, true, false, List, [], ◌∷◌, length, get_or}
use Rattle.std.specs.Prelude.{Contains}
use Rattle.std.specs.List.Sorted.{IsNonDecreasing}
use Rattle.ipnet_base.specs.Address.{Address}
use Rattle.ipnet_base.specs.Network.{Network, IsNetwork, InBlock, IsSubnetOf, IsTruncated}
use Rattle.ipnet_base.specs.Blocks.{IsAscending}
use Rattle.ipnet_routes.specs.Routes.{Route}
use Rattle.ipnet_fewest.specs.Shortest.{HasValue}
use Rattle.ipnet_fewest.specs.Plans.{Plan, choices_of, routes_for}

-- The values are the same number.
abbrev pub IsSameNumber : ℕ → ℕ → Type 0
IsSameNumber v w = v ≡ w

-- No network of the routes contains the address.
abbrev pub HasNoMatch : List (Route ℕ) → Address → Type 0
HasNoMatch routes x = (r : Route ℕ) → Contains routes r → InBlock r.0 x → ⊥

-- The routes give the address this value, if addresses without a match have the value `other`.
-- Example: with 10.0.0.0/8 with 1 and the value 0, 10.0.0.1 has 1, and 11.0.0.1 has 0.
abbrev pub IsRouted : List (Route ℕ) → ℕ → Address → ℕ → Type 0
IsRouted routes other x v = HasValue IsSameNumber routes x v ⊎ (HasNoMatch routes x × (other ≡ v))

-- A router with the first table forwards each packet for an address of the block as one with the wanted table does. An
-- address without a match has the value beside its table: the next hop of a default route, or 0 for none.
-- Example: in 10.0.0.0/8, the table 10.0.0.0/9 with 2, and 1 for all else, routes as the table 10.128.0.0/9 with 1, and
-- 2 for all else.
abbrev pub RoutesAs : Network → List (Route ℕ) → ℕ → List (Route ℕ) → ℕ → Type 0
RoutesAs block routes other wanted value = (x : Address) → InBlock block x → (v : ℕ) → IsRouted routes other x v
    → IsRouted wanted value x v

-- The routes are in the block, and have values other than 0.
pub record AreRoutesIn (block : Network) (routes : List (Route ℕ)) : Type 0 where
  pub valid : (r : Route ℕ) → Contains routes r → IsNetwork r.0
  pub within : (r : Route ℕ) → Contains routes r → IsSubnetOf r.0 block
  pub some : (r : Route ℕ) → Contains routes r → 0 < r.1

-- The networks of the routes are longer.
abbrev pub AreLonger : ℕ → List (Route ℕ) → Type 0
AreLonger len routes = (r : Route ℕ) → Contains routes r → len < r.0.prefix_len

-- Routes of longer networks in a block, which route the block as wanted if the block has the value `v`.
pub record AreMade (wanted : List (Route ℕ)) (value : ℕ) (block : Network) (len v : ℕ) (made : List (Route ℕ)) : Type 0
  where
    pub inside : AreRoutesIn block made
    pub truncated : (r : Route ℕ) → Contains made r → IsTruncated r.0
    pub longer : AreLonger len made
    pub as_wanted : RoutesAs block made v wanted value

-- Some address of the block has no value.
pub record HasUnmatched (routes : List (Route ℕ)) (value : ℕ) (block : Network) : Type 0 where
  pub address : Address
  pub inside : InBlock block address
  pub unmatched : (v : ℕ) → IsRouted routes value address v → v ≡ 0

-- The values with which the block needs the fewest routes, and the choices from which these routes follow. There are as
-- many routes as choices for each of these values, and at least one more for each other value. If 0 is one of the
-- values, it is the only one: some address of the block has no value.
-- Example: in 10.0.0.0/8, 10.0.0.0/9 is wanted with 2 and 10.128.0.0/9 with 3. The values are 2 and 3, with one choice.
pub record IsSolved (wanted : List (Route ℕ)) (value : ℕ) (block : Network) (values : List ℕ) (plan : Plan) : Type 0
  where
    pub some : 0 < length values
    pub zero_is_given : Contains values 0 → value ≡ 0
    pub zero_is_only : Contains values 0 → (v : ℕ) → Contains values v → v ≡ 0
    pub unmatched : Contains values 0 → HasUnmatched wanted value block
    pub made : (v : ℕ) → Contains values v → AreMade wanted value block block.prefix_len v (routes_for plan v)
    pub size : (v : ℕ) → Contains values v → length (routes_for plan v) ≡ length (choices_of plan)
    pub least : (others : List (Route ℕ)) (v : ℕ) → AreRoutesIn block others → RoutesAs block others v wanted value
        → length (choices_of plan) ≤ length others
    pub least_other : (others : List (Route ℕ)) (v : ℕ) → AreRoutesIn block others
        → RoutesAs block others v wanted value → (Contains values v → ⊥) → length (choices_of plan) < length others

-- The two halves of a network.
pub record AreHalvesOf (first second around : Network) : Type 0 where
  pub network : IsNetwork around
  pub truncated : IsTruncated around
  pub first_network : IsNetwork first
  pub second_network : IsNetwork second
  pub first_truncated : IsTruncated first
  pub second_truncated : IsTruncated second
  pub first_len : around.prefix_len + 1 ≡ first.prefix_len
  pub second_len : around.prefix_len + 1 ≡ second.prefix_len
  pub first_within : IsSubnetOf first around
  pub second_within : IsSubnetOf second around
  pub disjoint : (x : Address) → InBlock first x → InBlock second x → ⊥
  pub all : (x : Address) → InBlock around x → InBlock first x ⊎ InBlock second x

-- Networks of a table, or of a part of one, that are in a network.
pub record AreTableIn (around : Network) (networks : List Network) : Type 0 where
  pub around_truncated : IsTruncated around
  pub truncated : (n : Network) → Contains networks n → IsTruncated n
  pub ascending : IsAscending networks
  pub within : (n : Network) → Contains networks n → IsSubnetOf n around

-- No value of the routes is 0.
abbrev pub HaveValues : List (Route ℕ) → Type 0
HaveValues routes = (r : Route ℕ) → Contains routes r → 0 < r.1

-- The first value of neither list is 0, and the values are the values of both lists.
pub record AreAllValues (first second values : List ℕ) : Type 0 where
  pub first_some : get_or first 0 0 ≢ 0
  pub second_some : get_or second 0 0 ≢ 0
  pub sorted : IsNonDecreasing values
  pub members : (v : ℕ) → Contains values v ↔ (Contains first v ⊎ Contains second v)

-- If the first value of one of the lists is 0, then 0 is the only value. Else, the values are the values of both lists.
-- Example: 1, 2, 4 for the lists 1, 4 and 2. It is 0 for the lists 1 and 0.
abbrev pub AreValuesOfBoth : List ℕ → List ℕ → List ℕ → Type 0
AreValuesOfBoth first second values =
    (((get_or first 0 0 ≡ 0) ⊎ (get_or second 0 0 ≡ 0)) × (values ≡ 0 ∷ [])) ⊎ AreAllValues first second values

-- A network in another one, around all of these networks.
pub record IsAroundAll (networks : List Network) (around near : Network) : Type 0 where
  pub network : IsNetwork near
  pub truncated : IsTruncated near
  pub within : IsSubnetOf near around
  pub holds : (n : Network) → Contains networks n → IsSubnetOf n near

-- The best values of a network with a value beside it, if it is a half; else the best values of a larger network.
pub record AreValuesBeside (is_half : Bool) (first : List ℕ) (value : ℕ) (values : List ℕ) : Type 0 where
  pub half : is_half ≡ true → AreValuesOfBoth first (value ∷ []) values
  pub larger : is_half ≡ false → values ≡ value ∷ []
