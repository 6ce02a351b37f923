-- Tables that route alike, and those with the fewest routes.
-- `IsSame` says which values are the same. It is an equivalence, such as `AreEqualBy`.
-- In the examples, the table is 10.0.0.0/8 with 1, 10.0.0.0/10 with 2, 10.64.0.0/10 with 2, 10.128.0.0/9 with 2.
use Rattle.std.specs.Prelude.{◌≡◌, ◌≤◌, ◌↔◌, List, length, All}
use Rattle.std.specs.declared.cmp.Ordering.{Ordering}
use Rattle.std.specs.declared.cmp.Ordering.TheVariants.{Equal}
use Rattle.ipnet_base.specs.Address.{Address}
use Rattle.ipnet_base.specs.Network.{IsNetwork}
use Rattle.ipnet_routes.specs.Routes.{Route, networks_of, IsLongestMatch}

-- The values compare as equal. This is an equivalence (`laws::equality_of_values`).
-- Example: the texts `eth0` and `eth0`, at two places of the memory.
abbrev pub AreEqualBy : {V : Type 0} → (V → V → Ordering) → V → V → Type 0
AreEqualBy cmp v w = cmp v w ≡ Equal

-- The longest match of the address has the value, or one that is the same.
-- Example: the table has the value 2 for 10.0.0.1. It has no value for 11.0.0.1.
pub record HasValue {V : Type 0} (IsSame : V → V → Type 0) (routes : List (Route V)) (x : Address) (v : V) : Type 0
  where
    pub route : Route V
    pub matches : IsLongestMatch routes x route
    pub is : IsSame route.1 v

-- Each address has the same value in both lists, or no value in both.
-- Example: the table routes as 10.0.0.0/8 with 2 does. It does not route as 0.0.0.0/0 with 2 does.
abbrev pub RouteAlike : {V : Type 0} → (V → V → Type 0) → List (Route V) → List (Route V) → Type 0
RouteAlike {V} IsSame routes others =
    (x : Address) (v : V) → HasValue IsSame routes x v ↔ HasValue IsSame others x v

-- Each address has the same value in both lists, or no value in both. No list of routes of valid networks of which this
-- is true has fewer routes. The definition does not say that the networks of the list are valid. The networks of a
-- `RouteTable` are.
-- Example: the shortest list for the table is 10.0.0.0/8 with 2.
pub record IsShortest {V : Type 0} (IsSame : V → V → Type 0) (given shortest : List (Route V)) : Type 0 where
  pub alike : RouteAlike IsSame given shortest
  pub fewest : (others : List (Route V)) → All IsNetwork (networks_of others) → RouteAlike IsSame given others
      → length shortest ≤ length others
