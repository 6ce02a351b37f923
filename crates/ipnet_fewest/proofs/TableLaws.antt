-- The networks of a table in the halves of a network.
use Rattle.std.proofs.Common.{◌≡◌, ℕ, ◌+◌, ◌<◌, ◌≤◌, ◌⊎◌, List, [], ◌∷◌, ◌++◌, length, take, drop}
use Rattle.std.proofs.Common.{Contains}
use Rattle.std.proofs.Common.{AllPairs, sym, ap, ◌∙◌, subst, arith, inl, inr}
use Rattle.std.proofs.lemmas.Bool.{cases_lt}
use Rattle.std.proofs.lemmas.List.{get_or-take, get_or-drop, length-drop, length-take-le, take-append-drop}
use Rattle.std.proofs.lemmas.List.Elements.{Contains-append_left, Contains-append_right}
use Rattle.ipnet_base.specs.Address.{family_index}
use Rattle.ipnet_base.specs.Network.{Network, IsNetwork, InBlock, IsSubnetOf, IsBefore}
use Rattle.ipnet_base.specs.Blocks.{IsAscending}
use Rattle.ipnet_base.specs.Stack.{IsBeforeOrEqual}
use Rattle.ipnet_base.proofs.BlockLaws.{own, own_in, block_between}
use Rattle.ipnet_base.proofs.ListLaws.{contains_here, contains_there, contains_cases, pairs_head}
use Rattle.ipnet_base.proofs.ListLaws.{pairs_tail}
use Rattle.ipnet_base.proofs.ListLaws.{pairs_cons}
use Rattle.ipnet_base.proofs.NestingLaws.{longer_from_subnet}
use Rattle.ipnet_base.proofs.NetworkLaws.{same_from_block}
use Rattle.ipnet_routes.specs.RouteSteps.{IsPlaceOf}
use Rattle.ipnet_routes.proofs.RouteLaws.{not_back}
use Rattle.ipnet_fewest.specs.Solved.{AreHalvesOf, AreTableIn}
use Rattle.ipnet_fewest.proofs.InsideLaws.{nested_by_len}

-- ---- pairs of two lists

pub pairs_left : {X : Type 0} (R : X → X → Type 0) (xs ys : List X) → AllPairs R (xs ++ ys) → AllPairs R xs
pairs_left R [] ys h = λ i j d l m. absurd (omega (arith, m))
pairs_left R (x ∷ xs) ys h =
    pairs_cons R x xs (λ y c. pairs_head R x (xs ++ ys) h y (Contains-append_left xs ys y c))
    (pairs_left R xs ys (pairs_tail R x (xs ++ ys) h))

pub pairs_right : {X : Type 0} (R : X → X → Type 0) (xs ys : List X) → AllPairs R (xs ++ ys) → AllPairs R ys
pairs_right R [] ys h = h
pairs_right R (x ∷ xs) ys h = pairs_right R xs ys (pairs_tail R x (xs ++ ys) h)

pairs_across : {X : Type 0} (R : X → X → Type 0) (xs ys : List X) → AllPairs R (xs ++ ys) → (x y : X) → Contains xs x
    → Contains ys y → R x y
pairs_across R [] ys h x y c d = absurd (omega (arith, c.1))
pairs_across R (z ∷ xs) ys h x y c d = elim (contains_cases z xs x c) [
  | inl e ↦ subst (λ v. R v y) e (pairs_head R z (xs ++ ys) h y (Contains-append_right xs ys y d))
  | inr k ↦ pairs_across R xs ys (pairs_tail R z (xs ++ ys) h) x y k d
]

-- ---- the first network of a table

module _ (around t : Network) (rest : List Network) (u : IsNetwork around)
    (valid : (n : Network) → Contains (t ∷ rest) n → IsNetwork n) (h : AreTableIn around (t ∷ rest)) where
  has : Contains (t ∷ rest) t
  has = contains_here t rest

  pub rest_table : AreTableIn around rest
  rest_table = record {
    around_truncated = h.around_truncated;
    truncated = λ n c. h.truncated n (contains_there t rest n c);
    ascending = pairs_tail IsBefore t rest h.ascending;
    within = λ n c. h.within n (contains_there t rest n c);
  }

  -- a network as long as the one around is this one
  as_long : (n : Network) → Contains (t ∷ rest) n → n.prefix_len ≤ around.prefix_len → n ≡ around
  as_long n c le = same_from_block n around (valid n c) u (h.truncated n c) h.around_truncated
      (h.within n c, nested_by_len around n (own n) (h.within n c (own n) (own_in n)) (own_in n) le)

  at_most : (n : Network) → Contains (t ∷ rest) n → around.prefix_len ≤ n.prefix_len
  at_most n c = longer_from_subnet n around (valid n c) u (h.within n c)

  -- if the first is the network around, the others are longer
  pub rest_longer : t.prefix_len ≡ around.prefix_len → (n : Network) → Contains rest n → t.prefix_len < n.prefix_len
  rest_longer e n c = elim (cases_lt t.prefix_len n.prefix_len) [
    | inl lt ↦ lt
    | inr le ↦
        let d = contains_there t rest n c in
        let same : n ≡ t = as_long n d (omega (arith, le, e)) ∙ sym (as_long t has (omega (arith, e))) in
        let before : IsBefore t n = pairs_head IsBefore t rest h.ascending n c in
        absurd (not_back t n before (inl same))
  ]

  -- and if it is not, all are longer
  pub all_longer : (t.prefix_len ≡ around.prefix_len → ⊥) → (n : Network) → Contains (t ∷ rest) n
      → around.prefix_len < n.prefix_len
  all_longer out n c = elim (cases_lt around.prefix_len n.prefix_len) [
    | inl lt ↦ lt
    | inr le ↦ elim (contains_cases t rest n c) [
      | inl e ↦ absurd (out (omega (arith, ap (λ z. z.prefix_len) e, le, at_most t has)))
      | inr d ↦
          let before : IsBefore t around =
          subst (IsBefore t) (as_long n c le) (pairs_head IsBefore t rest h.ascending n d) in
          absurd (first_not_before before)
    ]
  ]
    where
      first_not_before : IsBefore t around → ⊥
      first_not_before (inl lt) = omega (arith, lt, ap family_index (h.within t has (own t) (own_in t)).same_family)
      first_not_before (inr (e, inl lt)) =
          omega (arith, lt, h.around_truncated (own t) (h.within t has (own t) (own_in t)))
      first_not_before (inr (e, inr (same, lt))) = omega (arith, lt, at_most t has)

-- ---- the table in two halves

module _ (around l r : Network) (networks : List Network) (count : ℕ)
    (valid : (n : Network) → Contains networks n → IsNetwork n) (h : AreTableIn around networks)
    (longer : (n : Network) → Contains networks n → around.prefix_len < n.prefix_len) (halves : AreHalvesOf l r around)
    (in_order : l.number < r.number) (place : IsPlaceOf networks r count) where
  abbrev front : List Network
  front = take count networks

  abbrev back : List Network
  back = drop count networks

  whole : front ++ back ≡ networks
  whole = take-append-drop count networks

  from_front : (n : Network) → Contains front n → Contains networks n
  from_front n c = subst (λ z. Contains z n) whole (Contains-append_left front back n c)

  from_back : (n : Network) → Contains back n → Contains networks n
  from_back n c = subst (λ z. Contains z n) whole (Contains-append_right front back n c)

  in_half : (n : Network) → Contains networks n → IsSubnetOf n l ⊎ IsSubnetOf n r
  in_half n c = elim (halves.all (own n) (h.within n c (own n) (own_in n))) [
    | inl a ↦ inl (nested_by_len n l (own n) (own_in n) a (omega (arith, longer n c, halves.first_len)))
    | inr a ↦ inr (nested_by_len n r (own n) (own_in n) a (omega (arith, longer n c, halves.second_len)))
  ]

  before_second : (n : Network) → Contains front n → IsBefore n r
  before_second n c =
      let size : length front ≡ count = length-take-le count networks place.within in
      place.before n (
        c.0,
        omega (arith, c.1, size, place.within),
        sym (get_or-take count networks c.0 n (omega (arith, c.1, size))) ∙ c.2,
      ) (omega (arith, c.1, size))

  not_second : (n : Network) → Contains networks n → IsSubnetOf n r → IsBefore n r → ⊥
  not_second n c sub (inl lt) = omega (arith, lt, ap family_index (sub (own n) (own_in n)).same_family)
  not_second n c sub (inr (e, inl lt)) = omega (arith, lt, halves.second_truncated (own n) (sub (own n) (own_in n)))
  not_second n c sub (inr (e, inr (same, lt))) = omega (arith, lt, longer n c, halves.second_len)

  in_first : (n : Network) → Contains front n → IsSubnetOf n l
  in_first n c = elim (in_half n (from_front n c)) [
    | inl s ↦ s
    | inr s ↦ absurd (not_second n (from_front n c) s (before_second n c))
  ]

  pub front_table : AreTableIn l front
  front_table = record {
    around_truncated = halves.first_truncated;
    truncated = λ n c. h.truncated n (from_front n c);
    ascending = pairs_left IsBefore front back (subst IsAscending (sym whole) h.ascending);
    within = in_first;
  }

  -- the numbers of the first half are below the numbers of the second
  below : (n : Network) → IsSubnetOf n l → n.number < r.number
  below n s = elim (cases_lt n.number r.number) [
    | inl lt ↦ lt
    | inr le ↦
        let a : InBlock l (own n) = s (own n) (own_in n) in
        let fam = sym (halves.first_within (own l) (own_in l)).same_family in
        absurd (halves.disjoint (own r) (block_between l (own n) (own r) a
        ((halves.second_within (own r) (own_in r)).same_family ∙ fam) (omega (arith, in_order)) le) (own_in r))
  ]

  not_first : (n : Network) → IsSubnetOf n l → IsBeforeOrEqual r n → ⊥
  not_first n s (inl e) = omega (arith, below n s, ap (λ z. z.number) e)
  not_first n s (inr (inl lt)) = omega (
    arith,
    lt,
    ap family_index (s (own n) (own_in n)).same_family,
    ap family_index (halves.first_within (own l) (own_in l)).same_family,
    ap family_index (halves.second_within (own r) (own_in r)).same_family,
  )
  not_first n s (inr (inr (e, inl lt))) = omega (arith, lt, below n s)
  not_first n s (inr (inr (e, inr (same, lt)))) = omega (arith, same, below n s)

  in_back : (n : Network) (c : Contains back n) → (d : Contains networks n) × (count ≤ d.0)
  in_back n c = (
    (count + c.0, omega (arith, c.1, length-drop count networks), sym (get_or-drop count networks c.0 n) ∙ c.2),
    omega arith,
  )

  in_second : (n : Network) → Contains back n → IsSubnetOf n r
  in_second n c =
      let d = in_back n c in
      elim (in_half n d.0) [
        | inl s ↦ absurd (not_first n s (place.from n d.0 d.1))
        | inr s ↦ s
      ]

  pub back_table : AreTableIn r back
  back_table = record {
    around_truncated = halves.second_truncated;
    truncated = λ n c. h.truncated n (from_back n c);
    ascending = pairs_right IsBefore front back (subst IsAscending (sym whole) h.ascending);
    within = in_second;
  }
