-- A solved block beside a half without routes, and in a larger block.
use Rattle.std.proofs.Common.{◌≡◌, ℕ, ◌+◌, ◌<◌, ◌⊎◌, ◌↔◌, List, [], ◌∷◌, ◌++◌, length, get_or, Contains, sym}
use Rattle.std.proofs.Common.{subst, arith, inl, inr}
use Rattle.std.proofs.lemmas.Bool.{cases_eq}
use Rattle.ipnet_base.specs.Network.{Network, IsNetwork, IsSubnetOf, IsTruncated}
use Rattle.ipnet_base.proofs.BlockLaws.{own, own_in}
use Rattle.ipnet_base.proofs.ListLaws.{contains_nil, contains_here, contains_there, contains_cases}
use Rattle.ipnet_base.proofs.NetworkLaws.{same_from_block}
use Rattle.ipnet.specs.NetworkOf.{ip_network}
use Rattle.ipnet_routes.specs.Routes.{Route}
use Rattle.ipnet_fewest.specs.ItemsOf.{items_of}
use Rattle.ipnet_fewest.specs.declared.choice.Choice.{Choice}
use Rattle.ipnet_fewest.specs.Plans.{Plan, Nothing, Then}
use Rattle.ipnet_fewest.specs.Plans.{second_network}
use Rattle.ipnet_fewest.specs.Solved.{IsSolved, AreHalvesOf, AreValuesOfBoth}
use Rattle.ipnet_fewest.proofs.InsideLaws.{nested_by_len}
use Rattle.ipnet_fewest.proofs.NumberLaws.{first_number, one_number}
use Rattle.ipnet_fewest.proofs.PlanLaws.{append_nil}
use Rattle.ipnet_fewest.proofs.SolvedLaws.{solved_zero, solved_all}
use Rattle.ipnet_fewest.proofs.StepLaws.{solved_none}
use Rattle.ipnet_fewest.proofs.WideLaws.{solved_wider}

-- ---- the other half of the network around

other_way : (l r around : Network) → AreHalvesOf l r around → AreHalvesOf r l around
other_way l r around h = record {
  network = h.network;
  truncated = h.truncated;
  first_network = h.second_network;
  second_network = h.first_network;
  first_truncated = h.second_truncated;
  second_truncated = h.first_truncated;
  first_len = h.second_len;
  second_len = h.first_len;
  first_within = h.second_within;
  second_within = h.first_within;
  disjoint = λ x a b. h.disjoint x b a;
  all = λ x a. elim (h.all x a) [ inl b ↦ inr b | inr b ↦ inl b ];
}

is_one_half : (n l r around : Network) → IsNetwork n → IsTruncated n → IsSubnetOf n around
    → around.prefix_len + 1 ≡ n.prefix_len → AreHalvesOf l r around → (l ≡ n) ⊎ (r ≡ n)
is_one_half n l r around u cut sub len h = elim (h.all (own n) (sub (own n) (own_in n))) [
  | inl a ↦ inl (same_from_block l n h.first_network u h.first_truncated cut (
    nested_by_len l n (own n) a (own_in n) (omega (arith, len, h.first_len)),
    nested_by_len n l (own n) (own_in n) a (omega (arith, len, h.first_len)),
  ))
  | inr a ↦ inr (same_from_block r n h.second_network u h.second_truncated cut (
    nested_by_len r n (own n) a (own_in n) (omega (arith, len, h.second_len)),
    nested_by_len n r (own n) (own_in n) a (omega (arith, len, h.second_len)),
  ))
]

pub other_half : (n l r around : Network) → IsNetwork n → IsTruncated n → IsSubnetOf n around
    → around.prefix_len + 1 ≡ n.prefix_len → AreHalvesOf l r around → (l ≡ n → ⊥) → AreHalvesOf n l around
other_half n l r around u cut sub len h out = elim (is_one_half n l r around u cut sub len h) [
  | inl e ↦ absurd (out e)
  | inr e ↦ subst (λ z. AreHalvesOf z l around) e (other_way l r around h)
]

-- the network one bit shorter is the network around if this is as long, and else is longer
pub parent_in : (n parent around : Network) → IsNetwork around → IsSubnetOf n around
    → around.prefix_len < n.prefix_len → IsNetwork parent → parent.prefix_len + 1 ≡ n.prefix_len → IsSubnetOf n parent
    → IsSubnetOf parent around
parent_in n parent around w sub longer u len up =
    nested_by_len parent around (own n) (up (own n) (own_in n)) (sub (own n) (own_in n)) (omega (arith, longer, len))

-- ---- the half beside a solved block has no routes

module _ (choice : Choice) (wanted : List (Route ℕ)) (value : ℕ) (parent : Network)
    (h : AreHalvesOf (ip_network choice.first) (second_network choice) parent)
    (inside : (x : Route ℕ) → Contains wanted x → IsSubnetOf x.0 (ip_network choice.first)) (p : Plan)
    (s : IsSolved wanted value (ip_network choice.first) (items_of choice.first_values) p)
    (is_value : choice.second_value ≡ value) (out : Contains (items_of choice.first_values) value → ⊥) where
  abbrev ones : List ℕ
  ones = (items_of choice.first_values)

  abbrev plan : Plan
  plan = Then Nothing p Nothing choice

  t : IsSolved [] value (second_network choice) (value ∷ []) Nothing
  t = solved_none value (second_network choice)

  in_none : (x : Route ℕ) → Contains [] x → IsSubnetOf x.0 (second_network choice)
  in_none x c = absurd (contains_nil x c)

  in_second : Contains (value ∷ []) choice.second_value
  in_second = subst (Contains (value ∷ [])) (sym is_value) (contains_here value [])

  apart : (v : ℕ) → Contains ones v → Contains (value ∷ []) v → ⊥
  apart v c d = out (subst (Contains ones) (one_number value v d) c)

  same : (values : List ℕ) → IsSolved (wanted ++ []) value parent values plan → IsSolved wanted value parent values plan
  same values g = subst (λ z. IsSolved z value parent values plan) (append_nil wanted) g

  aside_zero : Contains ones 0 ⊎ Contains (value ∷ []) 0 → IsSolved wanted value parent (0 ∷ []) plan
  aside_zero z = same (0 ∷ [])
      (solved_zero choice wanted [] value parent h inside in_none (value ∷ []) p Nothing s t in_second apart z)

  aside_all : (values : List ℕ) → 0 < length values
      → ((v : ℕ) → Contains values v ↔ (Contains ones v ⊎ Contains (value ∷ []) v)) → (Contains ones 0 → ⊥)
      → (Contains (value ∷ []) 0 → ⊥) → IsSolved wanted value parent values plan
  aside_all values some are no_first no_second = same values
      (solved_all choice wanted [] value parent h inside in_none (value ∷ []) p Nothing s t in_second apart values some
      are no_first no_second)

  -- the best values of the network around both
  pub aside_both : (values : List ℕ) → AreValuesOfBoth ones (value ∷ []) values
      → IsSolved wanted value parent values plan
  aside_both values (inl (z, e)) =
      subst (λ vs. IsSolved wanted value parent vs plan) (sym e) (aside_zero (elim z [
        | inl a ↦ inl (subst (Contains ones) a (first_number ones s.some))
        | inr b ↦ inr (subst (Contains (value ∷ [])) b (contains_here value []))
      ]))
  aside_both values (inr a) =
      let has : Contains values value = (a.members value).1 (inr (contains_here value [])) in
      aside_all values (omega (arith, has.1)) a.members
      (λ c. a.first_some (s.zero_is_only c (get_or ones 0 0) (first_number ones s.some)))
      (λ c. a.second_some (sym (one_number value 0 c)))

  -- and the best values of a larger network
  module _ (around : Network) (w : IsNetwork around) (sub : IsSubnetOf parent around)
      (longer : around.prefix_len < parent.prefix_len) where
    in_parent : (x : Route ℕ) → Contains wanted x → IsSubnetOf x.0 parent
    in_parent x c a b = h.first_within a (inside x c a b)

    wider : (values : List ℕ) → IsSolved wanted value parent values plan → Contains values value
        → IsSolved wanted value around (value ∷ []) plan
    wider values g has = solved_wider wanted value parent around values plan h.network w sub longer in_parent g has

    pub aside_around : IsSolved wanted value around (value ∷ []) plan
    aside_around = elim (cases_eq value 0) [
      | inl e ↦
          let zero : Contains (value ∷ []) 0 = subst (Contains (value ∷ [])) e (contains_here value []) in
          wider (0 ∷ []) (aside_zero (inr zero)) (subst (Contains (0 ∷ [])) (sym e) (contains_here 0 []))
      | inr ne ↦
          wider (value ∷ ones) (aside_all (value ∷ ones) (omega arith) members
          (λ c. ne (s.zero_is_given c)) (λ c. ne (sym (one_number value 0 c)))) (contains_here value ones)
    ]
      where
        members : (v : ℕ) → Contains (value ∷ ones) v ↔ (Contains ones v ⊎ Contains (value ∷ []) v)
        members v = (
          λ c. elim (contains_cases value ones v c) [
            | inl e ↦ inr (subst (Contains (value ∷ [])) e (contains_here value []))
            | inr d ↦ inl d
          ],
          λ m. elim m [
            | inl d ↦ contains_there value ones v d
            | inr d ↦ subst (Contains (value ∷ ones)) (sym (one_number value v d)) (contains_here value ones)
          ],
        )
