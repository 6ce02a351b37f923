-- A block is solved if its halves are.
use Rattle.std.proofs.Common.{◌≡◌, ℕ, ◌+◌, ◌<◌, ◌≤◌, ◌⊎◌, ◌↔◌, List, [], ◌∷◌, ◌++◌, length, get_or, Contains, refl, sym}
use Rattle.std.proofs.Common.{ap, ◌∙◌, subst, arith, inl, inr, Bool, true, false, if◌then◌else◌}
use Rattle.std.proofs.lemmas.Bool.{cases_lt}
use Rattle.std.proofs.lemmas.List.{length-append}
use Rattle.ipnet_base.specs.Network.{Network, IsSubnetOf}
use Rattle.ipnet_base.proofs.ListLaws.{contains_here}
use Rattle.ipnet.specs.NetworkOf.{ip_network}
use Rattle.ipnet_routes.specs.Routes.{Route}
use Rattle.ipnet_fewest.specs.ItemsOf.{items_of}
use Rattle.ipnet_fewest.specs.declared.choice.Choice.{Choice}
use Rattle.ipnet_fewest.specs.Plans.{Plan, Nothing, Then, choices_of, routes_for}
use Rattle.ipnet_fewest.specs.Plans.{second_network}
use Rattle.ipnet_fewest.specs.Solved.{RoutesAs, AreRoutesIn, AreMade, AreHalvesOf, HasUnmatched, IsSolved}
use Rattle.ipnet_fewest.proofs.NumberLaws.{number_decided, first_number, one_number}
use Rattle.ipnet_fewest.proofs.PlanLaws.{joined_plan, joined_choices, joined_routes, append_nil}
use Rattle.ipnet_fewest.proofs.CutLaws.{IsCut, is_cut, no_value_above, to_left, to_right}
use Rattle.ipnet_fewest.proofs.MadeLaws.{made_shorter, made_on_top, made_both}
use Rattle.std.proofs.lemmas.List.Elements.{Contains-append_left, Contains-append_right, Contains-append_cases}

positive : (n : ℕ) → (n ≡ 0 → ⊥) → 0 < n
positive n out = elim (cases_lt 0 n) [ inl lt ↦ lt | inr le ↦ absurd (out (omega (arith, le))) ]

module _ (front back : List (Route ℕ)) (value : ℕ) (l r block : Network) (h : AreHalvesOf l r block)
    (in_l : (x : Route ℕ) → Contains front x → IsSubnetOf x.0 l)
    (in_r : (x : Route ℕ) → Contains back x → IsSubnetOf x.0 r) (ones twos : List ℕ) (p q : Plan)
    (s : IsSolved front value l ones p) (t : IsSolved back value r twos q) where
  pub zero_in_either : Contains ones 0 ⊎ Contains twos 0 → value ≡ 0
  zero_in_either (inl c) = s.zero_is_given c
  zero_in_either (inr c) = t.zero_is_given c

  pub unmatched_in_either : Contains ones 0 ⊎ Contains twos 0 → HasUnmatched (front ++ back) value block
  unmatched_in_either (inl c) =
      let u = s.unmatched c in
      record {
        address = u.address;
        inside = h.first_within u.address u.inside;
        unmatched = λ v g. u.unmatched v (to_left front back l r h.disjoint in_l in_r (front ++ back)
            (Contains-append_left front back) (Contains-append_right front back) (Contains-append_cases front back)
            u.address u.inside value v g);
      }
  unmatched_in_either (inr c) =
      let u = t.unmatched c in
      record {
        address = u.address;
        inside = h.second_within u.address u.inside;
        unmatched = λ v g. u.unmatched v (to_right front back l r h.disjoint in_l in_r (front ++ back)
            (Contains-append_left front back) (Contains-append_right front back) (Contains-append_cases front back)
            u.address u.inside value v g);
      }

  module _ (others : List (Route ℕ)) (v : ℕ) (inside : AreRoutesIn block others)
      (as_wanted : RoutesAs block others v (front ++ back) value) where
    k : IsCut front back value l r others v
    k = is_cut front back others value v l r block h in_l in_r inside as_wanted

    -- each half has as many routes as choices
    pub least_both : length (choices_of p) + length (choices_of q) ≤ length others
    least_both = omega (
      arith,
      k.few,
      s.least k.first k.given k.in_first k.first_as,
      t.least k.second k.given k.in_second k.second_as,
    )

    -- one half has more if the given value is not best for both
    more_unless : ((Contains ones k.given → Contains twos k.given → ⊥))
        → length (choices_of p) + length (choices_of q) < length k.first + length k.second
    more_unless apart = elim (number_decided ones k.given) [
      | inl c ↦ omega (
        arith,
        s.least k.first k.given k.in_first k.first_as,
        t.least_other k.second k.given k.in_second k.second_as (apart c.0),
      )
      | inr c ↦ omega (
        arith,
        t.least k.second k.given k.in_second k.second_as,
        s.least_other k.first k.given k.in_first k.first_as c.0,
      )
    ]

    pub least_common : (Contains ones v → Contains twos v → ⊥)
        → length (choices_of p) + length (choices_of q) < length others
    least_common apart = elim k.same [
      | inl e ↦ omega (
        arith,
        k.few,
        more_unless (λ c d. apart (subst (Contains ones) e c) (subst (Contains twos) e d)),
      )
      | inr lt ↦ omega (
        arith,
        lt,
        s.least k.first k.given k.in_first k.first_as,
        t.least k.second k.given k.in_second k.second_as,
      )
    ]

    pub least_apart : ((w : ℕ) → Contains ones w → Contains twos w → ⊥)
        → length (choices_of p) + length (choices_of q) + 1 ≤ length others
    least_apart apart = omega (arith, k.few, more_unless (apart k.given))

    pub least_neither : ((w : ℕ) → Contains ones w → Contains twos w → ⊥) → (Contains ones v → ⊥)
        → (Contains twos v → ⊥) → length (choices_of p) + length (choices_of q) + 1 < length others
    least_neither apart out off = elim k.same [
      | inl e ↦ omega (
        arith,
        k.few,
        s.least_other k.first k.given k.in_first k.first_as (λ c. out (subst (Contains ones) e c)),
        t.least_other k.second k.given k.in_second k.second_as (λ c. off (subst (Contains twos) e c)),
      )
      | inr lt ↦ omega (arith, lt, more_unless (apart k.given))
    ]

  -- ---- the halves have best values in common

  pub joined_size : length (choices_of (joined_plan p q)) ≡ length (choices_of p) + length (choices_of q)
  joined_size = ap length (joined_choices p q) ∙ length-append (choices_of p) (choices_of q)

  module _ (values : List ℕ) (some : 0 < length values)
      (are : (v : ℕ) → Contains values v ↔ (Contains ones v × Contains twos v)) where
    pub solved_common : IsSolved (front ++ back) value block values (joined_plan p q)
    solved_common = record {
      some = some;
      zero_is_given = λ c. s.zero_is_given ((are 0).0 c).0;
      zero_is_only = λ c v d. s.zero_is_only ((are 0).0 c).0 v ((are v).0 d).0;
      unmatched = λ c. unmatched_in_either (inl ((are 0).0 c).0);
      made = λ v c. subst (AreMade (front ++ back) value block block.prefix_len v) (sym (joined_routes p q v))
          (made_both front back (routes_for p v) (routes_for q v) value v block.prefix_len l r block h in_l in_r
          (made_shorter front (routes_for p v) value v l l.prefix_len block.prefix_len (omega (arith, h.first_len))
          (s.made v ((are v).0 c).0))
          (made_shorter back (routes_for q v) value v r r.prefix_len block.prefix_len (omega (arith, h.second_len))
          (t.made v ((are v).0 c).1)));
      size = λ v c. omega (
        arith,
        ap length (joined_routes p q v),
        length-append (routes_for q v) (routes_for p v),
        s.size v ((are v).0 c).0,
        t.size v ((are v).0 c).1,
        joined_size,
      );
      least = λ others v inside as_wanted. omega (arith, joined_size, least_both others v inside as_wanted);
      least_other = λ others v inside as_wanted out. omega (
        arith,
        joined_size,
        least_common others v inside as_wanted (λ c d. out ((are v).1 (c, d))),
      );
    }

-- ---- the halves have no best value in common

module _ (choice : Choice) (front back : List (Route ℕ)) (value : ℕ) (block : Network)
    (h : AreHalvesOf (ip_network choice.first) (second_network choice) block)
    (in_l : (x : Route ℕ) → Contains front x → IsSubnetOf x.0 (ip_network choice.first))
    (in_r : (x : Route ℕ) → Contains back x → IsSubnetOf x.0 (second_network choice)) (twos : List ℕ) (p q : Plan)
    (s : IsSolved front value (ip_network choice.first) (items_of choice.first_values) p)
    (t : IsSolved back value (second_network choice) twos q) (in_second : Contains twos choice.second_value)
    (apart : (v : ℕ) → Contains (items_of choice.first_values) v → Contains twos v → ⊥) where
  abbrev l : Network
  l = ip_network choice.first

  abbrev r : Network
  r = second_network choice

  abbrev ones : List ℕ
  ones = (items_of choice.first_values)

  abbrev plan : Plan
  plan = Then Nothing p q choice

  chosen_size : length (choices_of plan) ≡ length (choices_of p) + length (choices_of q) + 1
  chosen_size = omega (
    arith,
    length-append (choices_of p) (choices_of q ++ choice ∷ []),
    length-append (choices_of q) (choice ∷ []),
  )

  -- the routes of the plan, as they follow from whether the value is best for the first half
  abbrev shape : ℕ → Bool → List (Route ℕ)
  shape v b =
      ((routes_for q (if b then choice.second_value else v)
      ++ (if b then ((second_network choice, choice.second_value) ∷ []) else []))
      ++ (routes_for p (if b then v else get_or (items_of choice.first_values) 0 0)
      ++ (if b then [] else ((ip_network choice.first, get_or (items_of choice.first_values) 0 0) ∷ [])))) ++ []

  record IsRight (v : ℕ) (made : List (Route ℕ)) : Type 0 where
    are : AreMade (front ++ back) value block block.prefix_len v made
    size : length made ≡ length (choices_of plan)

  -- the second half has a route
  right_first : (v : ℕ) → Contains ones v → 0 < choice.second_value → IsRight v (shape v true)
  right_first v c some =
      let w = choice.second_value in
      let one = routes_for p v in
      let two = routes_for q w in
      subst (IsRight v) (sym (append_nil ((two ++ (r, w) ∷ []) ++ (one ++ []))))
      (subst (λ z. IsRight v ((two ++ (r, w) ∷ []) ++ z)) (sym (append_nil one))
      (record {
        are = made_both front back one (two ++ (r, w) ∷ []) value v block.prefix_len l r block h in_l in_r
            (made_shorter front one value v l l.prefix_len block.prefix_len (omega (arith, h.first_len)) (s.made v c))
            (made_on_top back two value w r h.second_network h.second_truncated some (t.made w in_second)
            block.prefix_len v (omega (arith, h.second_len)));
        size = omega (
          arith,
          length-append (two ++ (r, w) ∷ []) one,
          length-append two ((r, w) ∷ []),
          s.size v c,
          t.size w in_second,
          chosen_size,
        );
      }))

  -- the first half has a route
  right_second : (v : ℕ) → Contains twos v → 0 < get_or ones 0 0 → IsRight v (shape v false)
  right_second v c some =
      let w = get_or ones 0 0 in
      let one = routes_for p w in
      let two = routes_for q v in
      let has : Contains ones w = first_number ones s.some in
      subst (IsRight v) (sym (append_nil ((two ++ []) ++ (one ++ (l, w) ∷ []))))
      (subst (λ z. IsRight v (z ++ (one ++ (l, w) ∷ []))) (sym (append_nil two))
      (record {
        are = made_both front back (one ++ (l, w) ∷ []) two value v block.prefix_len l r block h in_l in_r
            (made_on_top front one value w l h.first_network h.first_truncated some (s.made w has)
            block.prefix_len v (omega (arith, h.first_len)))
            (made_shorter back two value v r r.prefix_len block.prefix_len (omega (arith, h.second_len)) (t.made v c));
        size = omega (
          arith,
          length-append two (one ++ (l, w) ∷ []),
          length-append one ((l, w) ∷ []),
          s.size w has,
          t.size v c,
          chosen_size,
        );
      }))

  right : (v : ℕ) → Contains ones v ⊎ Contains twos v → (Contains ones 0 ⊎ Contains twos 0 → v ≡ 0)
      → IsRight v (routes_for plan v)
  right v has zero = elim (number_decided ones v) [
    | inl c ↦ subst (λ b. IsRight v (shape v b)) (sym c.1) (right_first v c.0 (positive choice.second_value
        (λ e. let d : Contains twos 0 = subst (Contains twos) e in_second in
        apart 0 (subst (Contains ones) (zero (inr d)) c.0) d)))
    | inr c ↦ subst (λ b. IsRight v (shape v b)) (sym c.1)
        (right_second v (elim has [ inl d ↦ absurd (c.0 d) | inr d ↦ d ]) (positive (get_or ones 0 0)
        (λ e. let d : Contains ones 0 = subst (Contains ones) e (first_number ones s.some) in
        c.0 (subst (Contains ones) (sym (zero (inl d))) d))))
  ]

  -- an address of the block has no value
  pub solved_zero : Contains ones 0 ⊎ Contains twos 0 → IsSolved (front ++ back) value block (0 ∷ []) plan
  solved_zero zero =
      let unmatched = unmatched_in_either front back value l r block h in_l in_r ones twos p q s t zero in
      let each : (v : ℕ) → Contains (0 ∷ []) v → IsRight v (routes_for plan v) =
      λ v c. subst (λ z. IsRight z (routes_for plan z)) (sym (one_number 0 v c)) (right 0 zero (λ _. refl)) in
      record {
        some = omega arith;
        zero_is_given = λ c. zero_in_either front back value l r block h in_l in_r ones twos p q s t zero;
        zero_is_only = λ c v d. one_number 0 v d;
        unmatched = λ c. unmatched;
        made = λ v c. (each v c).are;
        size = λ v c. (each v c).size;
        least = λ others v inside as_wanted. omega (
          arith,
          chosen_size,
          least_apart front back value l r block h in_l in_r ones twos p q s t others v inside as_wanted apart,
        );
        least_other = λ others v inside as_wanted out. absurd (out (subst (Contains (0 ∷ []))
            (sym (no_value_above (front ++ back) others value v block unmatched inside as_wanted))
            (contains_here 0 [])));
      }

  -- each address of the block has a value
  module _ (values : List ℕ) (some : 0 < length values)
      (are : (v : ℕ) → Contains values v ↔ (Contains ones v ⊎ Contains twos v)) (no_first : Contains ones 0 → ⊥)
      (no_second : Contains twos 0 → ⊥) where
    no_zero : Contains ones 0 ⊎ Contains twos 0 → ⊥
    no_zero (inl c) = no_first c
    no_zero (inr c) = no_second c

    pub solved_all : IsSolved (front ++ back) value block values plan
    solved_all = record {
      some = some;
      zero_is_given = λ c. absurd (no_zero ((are 0).0 c));
      zero_is_only = λ c v d. absurd (no_zero ((are 0).0 c));
      unmatched = λ c. absurd (no_zero ((are 0).0 c));
      made = λ v c. (right v ((are v).0 c) (λ z. absurd (no_zero z))).are;
      size = λ v c. (right v ((are v).0 c) (λ z. absurd (no_zero z))).size;
      least = λ others v inside as_wanted. omega (
        arith,
        chosen_size,
        least_apart front back value l r block h in_l in_r ones twos p q s t others v inside as_wanted apart,
      );
      least_other = λ others v inside as_wanted out. omega (
        arith,
        chosen_size,
        least_neither front back value l r block h in_l in_r ones twos p q s t others v inside as_wanted apart
            (λ c. out ((are v).1 (inl c))) (λ c. out ((are v).1 (inr c))),
      );
    }
