-- A set of numbers as its boundaries: the ascending list of the numbers at which the set begins or ends. Each set of
-- numbers of one family has exactly one such list. `Members` uses `is_inside` and `by_family`. The other definitions
-- are for private contracts.
use Rattle.std.specs.Prelude.{◌≡◌, ℕ, ◌+◌, ◌<◌, ◌≤◌, ◌⊎◌, Bool, true, false, not, cond, leb, ◌&&◌, ◌||◌}
use Rattle.std.specs.Prelude.{List, [], ◌∷◌, length, get_or, All, AllPairs}
use Rattle.ipnet_base.specs.Address.{Family, IPv4, IPv6, greatest_number}
use Rattle.ipnet_sets.specs.declared.operation.Operation.{Operation}
use Rattle.ipnet_sets.specs.declared.operation.Operation.TheVariants.{Union, Intersection, Difference}
use Rattle.ipnet_sets.specs.declared.operation.Operation.TheVariants.{SymmetricDifference}

-- The number of boundaries at most `x` is odd. Example: with the boundaries 3, 6 it is true for 3, 4 and 5.
abbrev pub is_inside : List ℕ → ℕ → Bool
is_inside [] x = false
is_inside (boundary ∷ boundaries) x = cond (leb boundary x) (not (is_inside boundaries x)) (is_inside boundaries x)

-- The boundaries are ascending, each once, and at most the family's greatest number.
pub record AreBoundaries (family : Family) (boundaries : List ℕ) : Type 0 where
  pub ascending : AllPairs (λ t u. t < u) boundaries
  pub fits : All (λ t. t ≤ greatest_number family) boundaries

-- The list of this family.
abbrev pub by_family : List ℕ → List ℕ → Family → List ℕ
by_family ipv4 ipv6 IPv4 = ipv4
by_family ipv4 ipv6 IPv6 = ipv6

-- The operation on one number: whether it is in the result, given whether it is in the first set and in the second.
abbrev pub combined : Operation → Bool → Bool → Bool
combined Union a b = a || b
combined Intersection a b = a && b
combined Difference a b = a && not b
combined SymmetricDifference a b = cond a (not b) b

-- If the list has the number at the index, the next index is one more; if its number there is greater, the index stays.
abbrev pub IsTurned : List ℕ → ℕ → ℕ → ℕ → Type 0
IsTurned boundaries place number next =
    ((next ≡ place + 1) × (place < length boundaries) × ((d : ℕ) → get_or boundaries place d ≡ number))
    ⊎ ((next ≡ place) × (place < length boundaries → (d : ℕ) → number < get_or boundaries place d))

-- The next number of one of the lists, and the indexes after it.
pub record IsBoundary (first : List ℕ) (i : ℕ) (second : List ℕ) (j number next_i next_j : ℕ) : Type 0 where
  pub in_first : IsTurned first i number next_i
  pub in_second : IsTurned second j number next_j
  pub on : i + j < next_i + next_j

-- The boundaries before the index are at most the number, and the boundaries from it on are greater.
pub record IsSplitAt (boundaries : List ℕ) (number place : ℕ) : Type 0 where
  pub within : place ≤ length boundaries
  pub up_to : (k d : ℕ) → k < place → get_or boundaries k d ≤ number
  pub above : (k d : ℕ) → place ≤ k → k < length boundaries → number < get_or boundaries k d

-- The least number of the set.
pub record IsLeastInside (family : Family) (boundaries : List ℕ) (n : ℕ) : Type 0 where
  pub fits : n ≤ greatest_number family
  pub inside : is_inside boundaries n ≡ true
  pub least : (x : ℕ) → is_inside boundaries x ≡ true → n ≤ x

-- The greatest number of the set.
pub record IsGreatestInside (family : Family) (boundaries : List ℕ) (n : ℕ) : Type 0 where
  pub fits : n ≤ greatest_number family
  pub inside : is_inside boundaries n ≡ true
  pub greatest : (x : ℕ) → x ≤ greatest_number family → is_inside boundaries x ≡ true → x ≤ n
