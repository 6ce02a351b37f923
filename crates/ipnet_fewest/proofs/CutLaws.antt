-- A list of routes that routes a block as wanted is cut into the routes of its halves.
use Rattle.std.proofs.Common.{◌≡◌, ℕ, ◌+◌, ◌<◌, ◌≤◌, ◌⊎◌, List, ◌++◌, length, Contains, refl}
use Rattle.std.proofs.Common.{arith, inl, inr}
use Rattle.std.proofs.lemmas.Bool.{cases_lt}
use Rattle.std.proofs.lemmas.List.Elements.{Contains-append_left, Contains-append_right, Contains-append_cases}
use Rattle.ipnet_base.specs.Address.{Address}
use Rattle.ipnet_base.specs.Network.{Network, InBlock, IsSubnetOf}
use Rattle.ipnet_base.proofs.BlockLaws.{own, own_in}
use Rattle.ipnet_base.proofs.NestingLaws.{longer_from_subnet}
use Rattle.ipnet_routes.specs.Routes.{Route}
use Rattle.ipnet_fewest.specs.Solved.{IsRouted, RoutesAs, AreRoutesIn, AreHalvesOf, HasUnmatched}
use Rattle.ipnet_fewest.proofs.RoutedLaws.{same_routed, under_route}
use Rattle.ipnet_fewest.proofs.InsideLaws.{ArePartsIn, parts, nested_by_len, short_or_longer}
use Rattle.ipnet_fewest.proofs.MatchLaws.{longest_or_none}

-- ---- two lists in the halves of a block, side by side

module _ (R S : List (Route ℕ)) (l r : Network) (apart : (x : Address) → InBlock l x → InBlock r x → ⊥)
    (in_l : (x : Route ℕ) → Contains R x → IsSubnetOf x.0 l) (in_r : (x : Route ℕ) → Contains S x → IsSubnetOf x.0 r)
    (both : List (Route ℕ)) (has_left : (x : Route ℕ) → Contains R x → Contains both x)
    (has_right : (x : Route ℕ) → Contains S x → Contains both x)
    (cases : (x : Route ℕ) → Contains both x → Contains R x ⊎ Contains S x) where
  only_left : (a : Address) → InBlock l a → (x : Route ℕ) → Contains both x → InBlock x.0 a → Contains R x
  only_left a in_a x c b = elim (cases x c) [ inl d ↦ d | inr d ↦ absurd (apart a in_a (in_r x d a b)) ]

  only_right : (a : Address) → InBlock r a → (x : Route ℕ) → Contains both x → InBlock x.0 a → Contains S x
  only_right a in_a x c b = elim (cases x c) [ inl d ↦ absurd (apart a (in_l x d a b) in_a) | inr d ↦ d ]

  pub to_left : (a : Address) → InBlock l a → (v w : ℕ) → IsRouted both v a w → IsRouted R v a w
  to_left a in_a = same_routed both R a (only_left a in_a) (λ x c b. has_left x c)

  pub from_left : (a : Address) → InBlock l a → (v w : ℕ) → IsRouted R v a w → IsRouted both v a w
  from_left a in_a = same_routed R both a (λ x c b. has_left x c) (only_left a in_a)

  pub to_right : (a : Address) → InBlock r a → (v w : ℕ) → IsRouted both v a w → IsRouted S v a w
  to_right a in_a = same_routed both S a (only_right a in_a) (λ x c b. has_right x c)

  pub from_right : (a : Address) → InBlock r a → (v w : ℕ) → IsRouted S v a w → IsRouted both v a w
  from_right a in_a = same_routed S both a (λ x c b. has_right x c) (only_right a in_a)

-- ---- any list that routes a block, cut

-- The parts of a list in both halves, the value that the halves get, and the number of routes.
pub record IsCut (front back : List (Route ℕ)) (value : ℕ) (l r : Network) (others : List (Route ℕ)) (v : ℕ) : Type 0
  where
    pub first : List (Route ℕ)
    pub second : List (Route ℕ)
    pub given : ℕ
    pub in_first : AreRoutesIn l first
    pub in_second : AreRoutesIn r second
    pub first_as : RoutesAs l first given front value
    pub second_as : RoutesAs r second given back value
    pub few : length first + length second ≤ length others
    pub same : (given ≡ v) ⊎ (length first + length second < length others)

-- what the halves get, if a part of the list is in one half
record IsBelow (half : Network) (others part : List (Route ℕ)) (v given : ℕ) : Type 0 where
  below : (a : Address) → InBlock half a → (w : ℕ) → IsRouted part given a w → IsRouted others v a w

module _ (front back others : List (Route ℕ)) (value v : ℕ) (l r block : Network) (h : AreHalvesOf l r block)
    (in_l : (x : Route ℕ) → Contains front x → IsSubnetOf x.0 l)
    (in_r : (x : Route ℕ) → Contains back x → IsSubnetOf x.0 r) (inside : AreRoutesIn block others)
    (as_wanted : RoutesAs block others v (front ++ back) value) where
  cut : (first second : List (Route ℕ)) → ArePartsIn l r others first second → (given : ℕ)
      → IsBelow l others first v given → IsBelow r others second v given
      → ((given ≡ v) ⊎ (length first + length second < length others)) → IsCut front back value l r others v
  cut first second p given of_l of_r same = record {
    first = first;
    second = second;
    given = given;
    in_first = record {
      valid = λ x c. inside.valid x (p.from_first x c);
      within = p.in_first;
      some = λ x c. inside.some x (p.from_first x c);
    };
    in_second = record {
      valid = λ x c. inside.valid x (p.from_second x c);
      within = p.in_second;
      some = λ x c. inside.some x (p.from_second x c);
    };
    first_as = λ a b w g. to_left front back l r h.disjoint in_l in_r (front ++ back)
        (Contains-append_left front back) (Contains-append_right front back) (Contains-append_cases front back) a b
        value w (as_wanted a (h.first_within a b) w (of_l.below a b w g));
    second_as = λ a b w g. to_right front back l r h.disjoint in_l in_r (front ++ back)
        (Contains-append_left front back) (Contains-append_right front back) (Contains-append_cases front back) a b
        value w (as_wanted a (h.second_within a b) w (of_r.below a b w g));
    few = p.few;
    same = same;
  }

  -- no route of the list has the block: the halves get its value
  cut_longer : (first second : List (Route ℕ)) → ArePartsIn l r others first second
      → ((x : Route ℕ) → Contains others x → block.prefix_len < x.0.prefix_len) → IsCut front back value l r others v
  cut_longer first second p longer = cut first second p v
      (record {
        below = λ a b w g. same_routed first others a (λ x c d. p.from_first x c)
            (λ x c d. p.all_first x c (nested_by_len x.0 l a d b (omega (arith, longer x c, h.first_len)))) v w g;
      })
      (record {
        below = λ a b w g. same_routed second others a (λ x c d. p.from_second x c)
            (λ x c d. p.all_second x c (nested_by_len x.0 r a d b (omega (arith, longer x c, h.second_len)))) v w g;
      })
      (inl refl)

  -- the block has a route: the halves get its value
  module _ (first second : List (Route ℕ)) (p : ArePartsIn l r others first second) (t : Route ℕ)
      (has : Contains others t) (short : t.0.prefix_len ≤ block.prefix_len) where
    around : IsSubnetOf block t.0
    around = nested_by_len block t.0 (own t.0) (inside.within t has (own t.0) (own_in t.0)) (own_in t.0) short

    as_long : block.prefix_len ≤ t.0.prefix_len
    as_long = longer_from_subnet t.0 block (inside.valid t has) h.network (inside.within t has)

    cut_short : IsCut front back value l r others v
    cut_short = cut first second p t.1
        (record {
          below = λ a b w g. under_route others first t a has (around a (h.first_within a b)) p.from_first
              (λ x c d. elim (cases_lt block.prefix_len x.0.prefix_len) [
                | inl lt ↦ inl (p.all_first x c (nested_by_len x.0 l a d b (omega (arith, lt, h.first_len))))
                | inr le ↦ inr (omega (arith, le, as_long))
              ])
              (λ x c. omega (
                arith,
                short,
                h.first_len,
                longer_from_subnet x.0 l (inside.valid x (p.from_first x c)) h.first_network (p.in_first x c),
              )) v w g;
        })
        (record {
          below = λ a b w g. under_route others second t a has (around a (h.second_within a b)) p.from_second
              (λ x c d. elim (cases_lt block.prefix_len x.0.prefix_len) [
                | inl lt ↦ inl (p.all_second x c (nested_by_len x.0 r a d b (omega (arith, lt, h.second_len))))
                | inr le ↦ inr (omega (arith, le, as_long))
              ])
              (λ x c. omega (
                arith,
                short,
                h.second_len,
                longer_from_subnet x.0 r (inside.valid x (p.from_second x c)) h.second_network (p.in_second x c),
              )) v w g;
        })
        (inr (p.fewer t has
        (λ s. omega (
          arith,
          short,
          h.first_len,
          longer_from_subnet t.0 l (inside.valid t has) h.first_network s,
        ))
        (λ s. omega (
          arith,
          short,
          h.second_len,
          longer_from_subnet t.0 r (inside.valid t has) h.second_network s,
        ))))

  pub is_cut : IsCut front back value l r others v
  is_cut =
      let p = parts l r h.disjoint others in
      elim (short_or_longer block.prefix_len others) [
        | inl t ↦ cut_short p.first p.second p.are t.0 t.1 t.2
        | inr longer ↦ cut_longer p.first p.second p.are longer
      ]

-- ---- a block with an address that has no value

pub no_value_above : (wanted others : List (Route ℕ)) (value v : ℕ) (block : Network)
    → HasUnmatched wanted value block → AreRoutesIn block others → RoutesAs block others v wanted value → v ≡ 0
no_value_above wanted others value v block u inside as_wanted = elim (longest_or_none others u.address) [
  | inr none ↦ u.unmatched v (as_wanted u.address u.inside v (inr (none, refl)))
  | inl found ↦ absurd (omega (
    arith,
    inside.some found.0 found.1.member,
    u.unmatched found.0.1 (as_wanted u.address u.inside found.0.1
        (inl (record { route = found.0; matches = found.1; is = refl }))),
  ))
]
