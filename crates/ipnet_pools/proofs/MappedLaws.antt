-- The members of a list whose elements are mapped.
use Rattle.std.proofs.Common.{◌≡◌, List, [], ◌∷◌, map, Contains, subst, inl, inr}
use Rattle.ipnet_base.proofs.ListLaws.{contains_nil, contains_here, contains_there, contains_cases}

pub contains_map : {X Y : Type 0} (f : X → Y) (xs : List X) (x : X) → Contains xs x → Contains (map f xs) (f x)
contains_map f [] x c = absurd (contains_nil x c)
contains_map f (y ∷ ys) x c = elim (contains_cases y ys x c) [
  | inl e ↦ subst (λ z. Contains (f y ∷ map f ys) (f z)) e (contains_here (f y) (map f ys))
  | inr r ↦ contains_there (f y) (map f ys) (f x) (contains_map f ys x r)
]

pub map_contains : {X Y : Type 0} (f : X → Y) (xs : List X) (y : Y) → Contains (map f xs) y
    → (x : X) × (f x ≡ y) × Contains xs x
map_contains f [] y c = absurd (contains_nil y c)
map_contains f (x ∷ xs) y c = elim (contains_cases (f x) (map f xs) y c) [
  | inl e ↦ (x, e, contains_here x xs)
  | inr r ↦ let (z, e, d) = map_contains f xs y r in (z, e, contains_there x xs z d)
]
