-- Numbers for the values of routes. Only private contracts use these.
use Rattle.std.specs.Prelude.{◌≡◌, ◌≢◌, ℕ, ◌+◌, ◌-◌, ◌<◌, ◌≤◌, List, min, length, get_or, Contains}
use Rattle.std.specs.declared.cmp.Ordering.{Ordering}
use Rattle.std.specs.declared.cmp.Ordering.TheVariants.{Less, Equal}
use Rattle.ipnet_routes.specs.Routes.{Route, networks_of}

-- The first `rank` of the values are less than this one, and the others are not.
-- Example: in 3, 5, 5, 8, the rank of 5 is 1.
pub record IsRank {V : Type 0} (cmp : V → V → Ordering) (values : List V) (value : V) (rank : ℕ) : Type 0 where
  pub within : rank ≤ length values
  pub less : (i : ℕ) (d : V) → i < rank → cmp (get_or values i d) value ≡ Less
  pub from : (i : ℕ) (d : V) → rank ≤ i → i < length values → cmp (get_or values i d) value ≢ Less

-- The list has a value that compares as equal to this one. Example: 3, 5 has one for 5, and none for 4.
pub record HasEqual {V : Type 0} (cmp : V → V → Ordering) (values : List V) (value : V) : Type 0 where
  pub found : V
  pub member : Contains values found
  pub equal : cmp found value ≡ Equal

-- The list has a value for each value of the routes.
-- Example: 3, 5 has one for each value of 10.0.0.0/8 with 5 and 10.1.0.0/16 with 3.
abbrev pub HasValuesOf : {V : Type 0} → (V → V → Ordering) → List (Route V) → List V → Type 0
HasValuesOf {V} cmp routes values = (r : Route V) → Contains routes r → HasEqual cmp values r.1

-- The networks of the routes, each with the number of its value: one more than the value's rank.
-- Example: by the values 3, 5, the routes 10.0.0.0/8 with 5 and 10.1.0.0/16 with 3 become 10.0.0.0/8 with 2 and
-- 10.1.0.0/16 with 1.
pub record AreNumbered {V : Type 0} (cmp : V → V → Ordering) (values : List V) (routes : List (Route V))
    (numbered : List (Route ℕ)) : Type 0 where
  pub networks : networks_of numbered ≡ networks_of routes
  pub ranks : (i : ℕ) (d : Route V) (e : Route ℕ) → i < length routes
      → (rank : ℕ) × (rank + 1 ≡ (get_or numbered i e).1) × IsRank cmp values (get_or routes i d).1 rank

-- The networks of the routes, each with a value in the place of its number. The number 1 is for the first value, 2 for
-- the second, and so on. A number above the number of values is for the last value, and 0 is for the first.
-- Example: by the values 3, 5, the routes 10.0.0.0/8 with 2 and 10.1.0.0/16 with 1 become 10.0.0.0/8 with 5 and
-- 10.1.0.0/16 with 3.
pub record AreValued {V : Type 0} (values : List V) (routes : List (Route ℕ)) (valued : List (Route V)) : Type 0 where
  pub networks : networks_of valued ≡ networks_of routes
  pub values_are : (i : ℕ) (d : Route V) (e : Route ℕ) (v : V) → i < length routes
      → (get_or valued i d).1 ≡ get_or values (min ((get_or routes i e).1 - 1) (length values - 1)) v
