-- Routes for a block, from those for its halves.
use Rattle.std.proofs.Common.{◌≡◌, ℕ, ◌<◌, ◌≤◌, ◌⊎◌, List, [], ◌∷◌, ◌++◌, Contains}
use Rattle.std.proofs.Common.{subst, arith, inl, inr}
use Rattle.std.proofs.lemmas.List.Elements.{Contains-append_left, Contains-append_right, Contains-append_cases}
use Rattle.ipnet_base.specs.Network.{Network, IsNetwork, IsSubnetOf, IsTruncated}
use Rattle.ipnet_base.proofs.ListLaws.{contains_nil, contains_here, contains_cases}
use Rattle.ipnet_routes.specs.Routes.{Route}
use Rattle.ipnet_fewest.specs.Solved.{RoutesAs, AreRoutesIn, AreMade, AreHalvesOf}
use Rattle.ipnet_fewest.proofs.RoutedLaws.{over_route}
use Rattle.ipnet_fewest.proofs.CutLaws.{to_left, from_left, to_right, from_right}

pub made_shorter : (wanted made : List (Route ℕ)) (value v : ℕ) (block : Network) (len less : ℕ) → less ≤ len
    → AreMade wanted value block len v made → AreMade wanted value block less v made
made_shorter wanted made value v block len less le m = record {
  inside = m.inside;
  truncated = m.truncated;
  longer = λ x c. omega (arith, le, m.longer x c);
  as_wanted = m.as_wanted;
}

last_of_list : (xs : List (Route ℕ)) (t x : Route ℕ) → Contains (xs ++ t ∷ []) x → (t ≡ x) ⊎ Contains xs x
last_of_list xs t x c = elim (Contains-append_cases xs (t ∷ []) x c) [
  | inl d ↦ inr d
  | inr d ↦ elim (contains_cases t [] x d) [ inl e ↦ inl e | inr n ↦ absurd (contains_nil x n) ]
]

-- with a route for the block itself, whatever its value is
module _ (wanted made : List (Route ℕ)) (value v : ℕ) (block : Network) (valid : IsNetwork block)
    (truncated : IsTruncated block) (some : 0 < v) (m : AreMade wanted value block block.prefix_len v made) where
  abbrev own_route : Route ℕ
  own_route = (block, v)

  each : (P : Route ℕ → Type 0) → P own_route → ((x : Route ℕ) → Contains made x → P x) → (x : Route ℕ)
      → Contains (made ++ (block, v) ∷ []) x → P x
  each P here there x c = elim (last_of_list made own_route x c) [ inl e ↦ subst P e here | inr d ↦ there x d ]

  pub top_inside : AreRoutesIn block (made ++ (block, v) ∷ [])
  top_inside = record {
    valid = each (λ x. IsNetwork x.0) valid m.inside.valid;
    within = each (λ x. IsSubnetOf x.0 block) (λ a b. b) m.inside.within;
    some = each (λ x. 0 < x.1) some m.inside.some;
  }

  pub top_truncated : (x : Route ℕ) → Contains (made ++ (block, v) ∷ []) x → IsTruncated x.0
  top_truncated = each (λ x. IsTruncated x.0) truncated m.truncated

  pub top_as_wanted : (given : ℕ) → RoutesAs block (made ++ (block, v) ∷ []) given wanted value
  top_as_wanted given a b w g = m.as_wanted a b w
      (over_route (made ++ (block, v) ∷ []) made own_route a
      (Contains-append_right made (own_route ∷ []) own_route (contains_here own_route [])) b
      (Contains-append_left made (own_route ∷ [])) (last_of_list made own_route) m.longer given w g)

  pub made_on_top : (len given : ℕ) → len < block.prefix_len
      → AreMade wanted value block len given (made ++ (block, v) ∷ [])
  made_on_top len given less = record {
    inside = top_inside;
    truncated = top_truncated;
    longer = each (λ x. len < x.0.prefix_len) less (λ x c. omega (arith, less, m.longer x c));
    as_wanted = top_as_wanted given;
  }

-- the routes of both halves
module _ (front back one two : List (Route ℕ)) (value v len : ℕ) (l r block : Network) (h : AreHalvesOf l r block)
    (in_l : (x : Route ℕ) → Contains front x → IsSubnetOf x.0 l)
    (in_r : (x : Route ℕ) → Contains back x → IsSubnetOf x.0 r) (m : AreMade front value l len v one)
    (n : AreMade back value r len v two) where
  cases : (x : Route ℕ) → Contains (two ++ one) x → Contains one x ⊎ Contains two x
  cases x c = elim (Contains-append_cases two one x c) [ inl d ↦ inr d | inr d ↦ inl d ]

  each_of : (P : Route ℕ → Type 0) → ((x : Route ℕ) → Contains one x → P x) → ((x : Route ℕ) → Contains two x → P x)
      → (x : Route ℕ) → Contains (two ++ one) x → P x
  each_of P of_one of_two x c = elim (cases x c) [ inl d ↦ of_one x d | inr d ↦ of_two x d ]

  pub made_both : AreMade (front ++ back) value block len v (two ++ one)
  made_both = record {
    inside = record {
      valid = each_of (λ x. IsNetwork x.0) m.inside.valid n.inside.valid;
      within = each_of (λ x. IsSubnetOf x.0 block) (λ x c a b. h.first_within a (m.inside.within x c a b))
          (λ x c a b. h.second_within a (n.inside.within x c a b));
      some = each_of (λ x. 0 < x.1) m.inside.some n.inside.some;
    };
    truncated = each_of (λ x. IsTruncated x.0) m.truncated n.truncated;
    longer = each_of (λ x. len < x.0.prefix_len) m.longer n.longer;
    as_wanted = λ a b w g. elim (h.all a b) [
      | inl in_a ↦ from_left front back l r h.disjoint in_l in_r (front ++ back) (Contains-append_left front back)
          (Contains-append_right front back) (Contains-append_cases front back) a in_a value w
          (m.as_wanted a in_a w (to_left one two l r h.disjoint m.inside.within n.inside.within (two ++ one)
          (Contains-append_right two one) (Contains-append_left two one) cases a in_a v w g))
      | inr in_a ↦ from_right front back l r h.disjoint in_l in_r (front ++ back) (Contains-append_left front back)
          (Contains-append_right front back) (Contains-append_cases front back) a in_a value w
          (n.as_wanted a in_a w (to_right one two l r h.disjoint m.inside.within n.inside.within (two ++ one)
          (Contains-append_right two one) (Contains-append_left two one) cases a in_a v w g))
    ];
  }
