-- A larger block around a solved one, if all other addresses have one of its best values.
use Rattle.std.proofs.Common.{◌≡◌, ℕ, ◌<◌, ◌≤◌, ◌⊎◌, List, [], ◌∷◌, length, Contains, refl, sym, ap, ◌∙◌, subst}
use Rattle.std.proofs.Common.{arith, inl, inr}
use Rattle.std.proofs.lemmas.Bool.{cases_lt}
use Rattle.ipnet_base.specs.Address.{Address, width}
use Rattle.ipnet_base.specs.Network.{Network, IsNetwork, InBlock, IsSubnetOf, first_of, last_of}
use Rattle.ipnet_base.proofs.BlockLaws.{at, first_in, last_in, between_from_block, block_from_between}
use Rattle.ipnet_base.proofs.ListLaws.{contains_nil, contains_here, contains_there, contains_cases}
use Rattle.ipnet_base.proofs.NestingLaws.{longer_from_subnet, bits_from_subnet}
use Rattle.ipnet_routes.specs.Routes.{Route}
use Rattle.ipnet_fewest.specs.Plans.{Plan, choices_of, routes_for}
use Rattle.ipnet_fewest.specs.Solved.{IsRouted, RoutesAs, AreRoutesIn, AreMade, HasNoMatch, IsSolved, HasUnmatched}
use Rattle.ipnet_fewest.proofs.NumberLaws.{one_number}
use Rattle.ipnet_fewest.proofs.RoutedLaws.{same_routed, under_route}
use Rattle.ipnet_fewest.proofs.InsideLaws.{subnet_decided, nested_by_len}
use Rattle.ipnet_fewest.proofs.MatchLaws.{in_block_decided}

-- ---- the routes of a list that are in a network

-- The routes in the network.
pub record ArePartIn (n : Network) (routes part : List (Route ℕ)) : Type 0 where
  pub from : (x : Route ℕ) → Contains part x → Contains routes x
  pub within : (x : Route ℕ) → Contains part x → IsSubnetOf x.0 n
  pub all : (x : Route ℕ) → Contains routes x → IsSubnetOf x.0 n → Contains part x
  pub few : length part ≤ length routes
  pub fewer : (t : Route ℕ) → Contains routes t → (IsSubnetOf t.0 n → ⊥) → length part < length routes

pub record HasPart (n : Network) (routes : List (Route ℕ)) : Type 0 where
  pub part : List (Route ℕ)
  pub are : ArePartIn n routes part

pub part_in : (n : Network) (routes : List (Route ℕ)) → HasPart n routes
part_in n [] = record {
  part = [];
  are = record {
    from = λ x c. c;
    within = λ x c. absurd (contains_nil x c);
    all = λ x c s. c;
    few = omega arith;
    fewer = λ t c u. absurd (contains_nil t c);
  };
}
part_in n (q ∷ routes) =
    let rest = part_in n routes in
    let h = rest.are in
    elim (subnet_decided q.0 n) [
      | inl s ↦ record {
        part = q ∷ rest.part;
        are = record {
          from = λ x c. elim (contains_cases q rest.part x c) [
            | inl e ↦ subst (Contains (q ∷ routes)) e (contains_here q routes)
            | inr d ↦ contains_there q routes x (h.from x d)
          ];
          within = λ x c. elim (contains_cases q rest.part x c) [
            | inl e ↦ subst (λ z. IsSubnetOf z.0 n) e s
            | inr d ↦ h.within x d
          ];
          all = λ x c u. elim (contains_cases q routes x c) [
            | inl e ↦ subst (Contains (q ∷ rest.part)) e (contains_here q rest.part)
            | inr d ↦ contains_there q rest.part x (h.all x d u)
          ];
          few = omega (arith, h.few);
          fewer = λ t c u. elim (contains_cases q routes t c) [
            | inl e ↦ absurd (u (subst (λ z. IsSubnetOf z.0 n) e s))
            | inr d ↦ omega (arith, h.fewer t d u)
          ];
        };
      }
      | inr out ↦ record {
        part = rest.part;
        are = record {
          from = λ x c. contains_there q routes x (h.from x c);
          within = h.within;
          all = λ x c u. elim (contains_cases q routes x c) [
            | inl e ↦ absurd (out (subst (λ z. IsSubnetOf z.0 n) (sym e) u))
            | inr d ↦ h.all x d u
          ];
          few = omega (arith, h.few);
          fewer = λ t c u. omega (arith, h.few);
        };
      }
    ]

-- ---- the longest route above a network

-- A shorter network around `n`.
abbrev IsAbove : Network → Route ℕ → Type 0
IsAbove n x = IsSubnetOf n x.0 × (x.0.prefix_len < n.prefix_len)

above_decided : (n : Network) (x : Route ℕ) → IsAbove n x ⊎ (IsAbove n x → ⊥)
above_decided n x = elim (cases_lt x.0.prefix_len n.prefix_len) [
  | inr le ↦ inr (λ a. omega (arith, le, a.1))
  | inl lt ↦ elim (subnet_decided n x.0) [ inl s ↦ inl (s, lt) | inr out ↦ inr (λ a. out a.0) ]
]

longest_above : (n : Network) (routes : List (Route ℕ))
    → ((t : Route ℕ) × Contains routes t × IsAbove n t
    × ((x : Route ℕ) → Contains routes x → IsAbove n x → x.0.prefix_len ≤ t.0.prefix_len))
    ⊎ ((x : Route ℕ) → Contains routes x → IsAbove n x → ⊥)
longest_above n [] = inr (λ x c a. contains_nil x c)
longest_above n (q ∷ routes) = elim (above_decided n q) [
  | inr out ↦ elim (longest_above n routes) [
    | inr none ↦ inr (λ x c a. elim (contains_cases q routes x c) [
      | inl e ↦ out (subst (IsAbove n) (sym e) a)
      | inr d ↦ none x d a
    ])
    | inl (t, has, is, longest) ↦ inl (
      t,
      contains_there q routes t has,
      is,
      λ x c a. elim (contains_cases q routes x c) [
        | inl e ↦ absurd (out (subst (IsAbove n) (sym e) a))
        | inr d ↦ longest x d a
      ],
    )
  ]
  | inl here ↦ elim (longest_above n routes) [
    | inr none ↦ inl (
      q,
      contains_here q routes,
      here,
      λ x c a. elim (contains_cases q routes x c) [
        | inl e ↦ omega (arith, ap (λ (z : Route ℕ). z.0.prefix_len) e)
        | inr d ↦ absurd (none x d a)
      ],
    )
    | inl (t, has, is, longest) ↦ elim (cases_lt t.0.prefix_len q.0.prefix_len) [
      | inl lt ↦ inl (
        q,
        contains_here q routes,
        here,
        λ x c a. elim (contains_cases q routes x c) [
          | inl e ↦ omega (arith, ap (λ (z : Route ℕ). z.0.prefix_len) e)
          | inr d ↦ omega (arith, lt, longest x d a)
        ],
      )
      | inr le ↦ inl (
        t,
        contains_there q routes t has,
        is,
        λ x c a. elim (contains_cases q routes x c) [
          | inl e ↦ omega (arith, le, ap (λ (z : Route ℕ). z.0.prefix_len) e)
          | inr d ↦ longest x d a
        ],
      )
    ]
  ]
]

-- ---- a block in a larger one

-- an address of the larger block that the smaller does not have
address_outside : (n block : Network) → IsNetwork n → IsNetwork block → IsSubnetOf n block
    → block.prefix_len < n.prefix_len → (y : Address) × InBlock block y × (InBlock n y → ⊥)
address_outside n block u w sub longer = elim (in_block_decided n (at block (first_of block))) [
  | inr out ↦ (at block (first_of block), first_in block, out)
  | inl low ↦ elim (in_block_decided n (at block (last_of block))) [
    | inr out ↦ (at block (last_of block), last_in block, out)
    | inl high ↦ absurd (omega (
      arith,
      longer,
      u.prefix_fits,
      ap width low.same_family,
      bits_from_subnet block n (λ x a.
          let b = between_from_block block x a in
          block_from_between n x (record {
            of_family = b.of_family ∙ low.same_family;
            from_start = omega (arith, b.from_start, (between_from_block n (at block (first_of block)) low).from_start);
            to_end = omega (arith, b.to_end, (between_from_block n (at block (last_of block)) high).to_end);
          })),
    ))
  ]
]

module _ (wanted : List (Route ℕ)) (value : ℕ) (n block : Network) (values : List ℕ) (plan : Plan) (u : IsNetwork n)
    (w : IsNetwork block) (sub : IsSubnetOf n block) (longer : block.prefix_len < n.prefix_len)
    (inside : (x : Route ℕ) → Contains wanted x → IsSubnetOf x.0 n) (s : IsSolved wanted value n values plan)
    (has : Contains values value) where
  outside : (x : Address) → (InBlock n x → ⊥) → HasNoMatch wanted x
  outside x out r c b = out (inside r c x b)

  module _ (others : List (Route ℕ)) (v : ℕ) (of_others : AreRoutesIn block others)
      (as_wanted : RoutesAs block others v wanted value) where
    p : HasPart n others
    p = part_in n others

    abbrev part : List (Route ℕ)
    part = p.part

    in_part : AreRoutesIn n part
    in_part = record {
      valid = λ x c. of_others.valid x (p.are.from x c);
      within = p.are.within;
      some = λ x c. of_others.some x (p.are.from x c);
    }

    -- a route with an address of the block is above it or in it
    above_or_in : (a : Address) → InBlock n a → (x : Route ℕ) → InBlock x.0 a → IsAbove n x ⊎ IsSubnetOf x.0 n
    above_or_in a in_n x b = elim (cases_lt x.0.prefix_len n.prefix_len) [
      | inl lt ↦ inl (nested_by_len n x.0 a in_n b (omega (arith, lt)), lt)
      | inr le ↦ inr (nested_by_len x.0 n a b in_n le)
    ]

    -- the block has a route above it in the list
    with_above : (t : Route ℕ) → Contains others t → IsAbove n t
        → ((x : Route ℕ) → Contains others x → IsAbove n x → x.0.prefix_len ≤ t.0.prefix_len)
        → length (choices_of plan) < length others
    with_above t c is longest =
        let as_t : RoutesAs n part t.1 wanted value =
        λ a b k g. as_wanted a (sub a b) k (under_route others part t a c (is.0 a b) p.are.from
        (λ x d e. elim (above_or_in a b x e) [
          | inl up ↦ inr (longest x d up)
          | inr in_n ↦ inl (p.are.all x d in_n)
        ])
        (λ x d. omega (
          arith,
          is.1,
          longer_from_subnet x.0 n (in_part.valid x d) u (p.are.within x d),
        )) v k g) in
        omega (
          arith,
          s.least part t.1 in_part as_t,
          p.are.fewer t c (λ in_n. omega (
            arith,
            is.1,
            longer_from_subnet t.0 n (of_others.valid t c) u in_n,
          )),
        )

    -- or not
    module _ (none : (x : Route ℕ) → Contains others x → IsAbove n x → ⊥) where
      as_v : RoutesAs n part v wanted value
      as_v a b k g = as_wanted a (sub a b) k (same_routed part others a (λ x d e. p.are.from x d)
          (λ x d e. elim (above_or_in a b x e) [
            | inl up ↦ absurd (none x d up)
            | inr in_n ↦ p.are.all x d in_n
          ]) v k g)

      without : length (choices_of plan) ≤ length others
      without = omega (arith, p.are.few, s.least part v in_part as_v)

      -- another value needs a route outside the block
      without_other : (v ≡ value → ⊥) → length (choices_of plan) < length others
      without_other out = elim (cases_lt (length part) (length others)) [
        | inl lt ↦ omega (arith, lt, s.least part v in_part as_v)
        | inr le ↦
            let y = address_outside n block u w sub longer in
            let no_match : HasNoMatch others y.0 =
            λ x c b. elim (subnet_decided x.0 n) [
              | inl in_n ↦ y.2 (in_n y.0 b)
              | inr off ↦ omega (arith, le, p.are.fewer x c off)
            ] in
            absurd (given (as_wanted y.0 y.1 v (inr (no_match, refl))) y.2)
      ]
        where
          given : {x : Address} → IsRouted wanted value x v → (InBlock n x → ⊥) → ⊥
          given {x} (inl h) off = outside x off h.route h.matches.member h.matches.holds
          given {x} (inr h) off = out (sym h.1)

    pub least_wider : length (choices_of plan) ≤ length others
    least_wider = elim (longest_above n others) [
      | inl (t, c, is, longest) ↦ omega (arith, with_above t c is longest)
      | inr none ↦ without none
    ]

    pub least_other_wider : (v ≡ value → ⊥) → length (choices_of plan) < length others
    least_other_wider out = elim (longest_above n others) [
      | inl (t, c, is, longest) ↦ with_above t c is longest
      | inr none ↦ without_other none out
    ]

  made_wider : (v : ℕ) → v ≡ value → AreMade wanted value block block.prefix_len v (routes_for plan v)
  made_wider v e =
      let m = s.made v (subst (Contains values) (sym e) has) in
      record {
        inside = record {
          valid = m.inside.valid;
          within = λ x c a b. sub a (m.inside.within x c a b);
          some = m.inside.some;
        };
        truncated = m.truncated;
        longer = λ x c. omega (arith, longer, m.longer x c);
        as_wanted = λ a b k g. elim (in_block_decided n a) [
          | inl in_n ↦ m.as_wanted a in_n k g
          | inr off ↦ inr (outside a off, sym e ∙ only_given a off k g)
        ];
      }
    where
      only_given : (a : Address) → (InBlock n a → ⊥) → (k : ℕ) → IsRouted (routes_for plan v) v a k → v ≡ k
      only_given a off k (inl h) =
          absurd (off ((s.made v (subst (Contains values) (sym e) has)).inside.within h.route h.matches.member a
          h.matches.holds))
      only_given a off k (inr h) = h.1

  unmatched_wider : value ≡ 0 → HasUnmatched wanted value block
  unmatched_wider e =
      let h = s.unmatched (subst (Contains values) e has) in
      record { address = h.address; inside = sub h.address h.inside; unmatched = h.unmatched }

  pub solved_wider : IsSolved wanted value block (value ∷ []) plan
  solved_wider = record {
    some = omega arith;
    zero_is_given = λ c. sym (one_number value 0 c);
    zero_is_only = λ c v d. one_number value v d ∙ sym (one_number value 0 c);
    unmatched = λ c. unmatched_wider (sym (one_number value 0 c));
    made = λ v c. made_wider v (one_number value v c);
    size = λ v c. s.size v (subst (Contains values) (sym (one_number value v c)) has);
    least = λ others v of_others as_wanted. least_wider others v of_others as_wanted;
    least_other = λ others v of_others as_wanted out. least_other_wider others v of_others as_wanted
        (λ e. out (subst (Contains (value ∷ [])) (sym e) (contains_here value [])));
  }
