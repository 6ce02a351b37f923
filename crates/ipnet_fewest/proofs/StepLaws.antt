-- A block without routes, and a block with a route of its own.
use Rattle.std.proofs.Common.{◌≡◌, ℕ, ◌<◌, List, [], ◌∷◌, length, get_or, Contains, refl, sym, ap, ◌∙◌}
use Rattle.std.proofs.Common.{subst, arith, inl, inr}
use Rattle.std.specs.List.Sorted.{IsNonDecreasing}
use Rattle.ipnet_base.specs.Address.{Address}
use Rattle.ipnet_base.specs.Network.{Network, InBlock, IsSubnetOf}
use Rattle.ipnet_base.proofs.BlockLaws.{own, own_in}
use Rattle.ipnet_base.proofs.ListLaws.{contains_nil, contains_here, contains_there, contains_cases}
use Rattle.ipnet_routes.specs.Routes.{Route}
use Rattle.ipnet_fewest.specs.Plans.{Plan, Nothing, routes_for}
use Rattle.ipnet_fewest.specs.Solved.{IsRouted, RoutesAs, AreMade, IsSolved}
use Rattle.ipnet_fewest.proofs.NumberLaws.{one_number}
use Rattle.ipnet_fewest.proofs.RoutedLaws.{under_route, over_route}

pub one_sorted : (v : ℕ) → IsNonDecreasing (v ∷ [])
one_sorted v i j d le lt =
    let same : i ≡ j = omega (arith, le, lt) in
    omega (arith, ap (λ k. get_or (v ∷ []) k d) same)

routed_by_none : (v w : ℕ) (x : Address) → IsRouted [] v x w → v ≡ w
routed_by_none v w x (inl h) = absurd (contains_nil h.route h.matches.member)
routed_by_none v w x (inr h) = h.1

made_of_none : (value : ℕ) (block : Network) (v : ℕ) → v ≡ value → AreMade [] value block block.prefix_len v []
made_of_none value block v e = record {
  inside = record {
    valid = λ x c. absurd (contains_nil x c);
    within = λ x c. absurd (contains_nil x c);
    some = λ x c. absurd (contains_nil x c);
  };
  truncated = λ x c. absurd (contains_nil x c);
  longer = λ x c. absurd (contains_nil x c);
  as_wanted = λ x a w g. subst (λ z. IsRouted [] z x w) e g;
}

some_needed : (value : ℕ) (block : Network) (others : List (Route ℕ)) (v : ℕ) → RoutesAs block others v [] value
    → (Contains (value ∷ []) v → ⊥) → 0 < length others
some_needed value block [] v as_wanted out =
    absurd (out (subst (Contains (value ∷ []))
    (routed_by_none value v (own block)
    (as_wanted (own block) (own_in block) v (inr (λ r c b. contains_nil r c, refl))))
    (contains_here value [])))
some_needed value block (x ∷ others) v as_wanted out = omega arith

pub solved_none : (value : ℕ) (block : Network) → IsSolved [] value block (value ∷ []) Nothing
solved_none value block = record {
  some = omega arith;
  zero_is_given = λ c. sym (one_number value 0 c);
  zero_is_only = λ c v d. one_number value v d ∙ sym (one_number value 0 c);
  unmatched = λ c. record {
    address = own block;
    inside = own_in block;
    unmatched = λ v g. sym (routed_by_none value v (own block) g) ∙ sym (one_number value 0 c);
  };
  made = λ v c. made_of_none value block v (one_number value v c);
  size = λ v c. refl;
  least = λ others v inside as_wanted. omega arith;
  least_other = λ others v inside as_wanted out. some_needed value block others v as_wanted out;
}

-- the first route is of the block itself
module _ (t : Route ℕ) (rest : List (Route ℕ)) (value : ℕ) (block : Network) (values : List ℕ) (plan : Plan)
    (holds : IsSubnetOf block t.0) (longer : (x : Route ℕ) → Contains rest x → t.0.prefix_len < x.0.prefix_len)
    (some : 0 < t.1) (s : IsSolved rest t.1 block values plan) where
  no_zero : Contains values 0 → ⊥
  no_zero c = omega (arith, some, s.zero_is_given c)

  to_all : (x : Address) → InBlock block x → (w : ℕ) → IsRouted rest t.1 x w → IsRouted (t ∷ rest) value x w
  to_all x a w g = under_route (t ∷ rest) rest t x (contains_here t rest) (holds x a) (contains_there t rest)
      (λ y c b. elim (contains_cases t rest y c) [
        | inl e ↦ inr (omega (arith, ap (λ z. z.0.prefix_len) e))
        | inr d ↦ inl d
      ])
      (λ y c. omega (arith, longer y c)) value w g

  to_rest : (x : Address) → InBlock block x → (w : ℕ) → IsRouted (t ∷ rest) value x w → IsRouted rest t.1 x w
  to_rest x a w g = over_route (t ∷ rest) rest t x (contains_here t rest) (holds x a) (contains_there t rest)
      (contains_cases t rest) longer value w g

  made_under : (v : ℕ) (made : List (Route ℕ)) → AreMade rest t.1 block block.prefix_len v made
      → AreMade (t ∷ rest) value block block.prefix_len v made
  made_under v made m = record {
    inside = m.inside;
    truncated = m.truncated;
    longer = m.longer;
    as_wanted = λ x a w g. to_all x a w (m.as_wanted x a w g);
  }

  pub solved_under : IsSolved (t ∷ rest) value block values plan
  solved_under = record {
    some = s.some;
    zero_is_given = λ c. absurd (no_zero c);
    zero_is_only = s.zero_is_only;
    unmatched = λ c. absurd (no_zero c);
    made = λ v c. made_under v (routes_for plan v) (s.made v c);
    size = s.size;
    least = λ others v inside as_wanted. s.least others v inside
        (λ x a w g. to_rest x a w (as_wanted x a w g));
    least_other = λ others v inside as_wanted out. s.least_other others v inside
        (λ x a w g. to_rest x a w (as_wanted x a w g)) out;
  }
