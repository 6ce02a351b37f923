-- Lists of routes after a change of a map.
use Rattle.std.specs.Prelude.{◌≡◌, ◌≢◌, ◌⊎◌, ◌↔◌, List, Contains}
use Rattle.ipnet_base.specs.Network.{Network}
use Rattle.ipnet_routes.specs.Routes.{Route}

-- The new list has the route, and the routes of the old list whose network is another one.
-- Example: 10.0.0.0/8 with 1 and 11.0.0.0/8 with 2, with the route 10.0.0.0/8 with 3: 10.0.0.0/8 with 3 and 11.0.0.0/8
-- with 2.
abbrev pub IsWithRoute : {V : Type 0} → List (Route V) → Route V → List (Route V) → Type 0
IsWithRoute {V} old route new =
    (other : Route V) → Contains new other ↔ ((other ≡ route) ⊎ (Contains old other × (other.0 ≢ route.0)))

-- The new list has the routes of the old list whose network is not `n`.
-- Example: 10.0.0.0/8 with 1 and 11.0.0.0/8 with 2, without 10.0.0.0/8: 11.0.0.0/8 with 2.
abbrev pub IsWithoutRoute : {V : Type 0} → List (Route V) → Network → List (Route V) → Type 0
IsWithoutRoute {V} old n new = (other : Route V) → Contains new other ↔ (Contains old other × (other.0 ≢ n))
