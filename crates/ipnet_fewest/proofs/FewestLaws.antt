-- The fewest routes for a block, and for the addresses of both families.
use Rattle.std.proofs.Common.{◌≡◌, ℕ, ◌+◌, ◌^◌, ◌<◌, ◌≤◌, ◌⊎◌, List, [], ◌∷◌, ◌++◌, length, take, drop, Contains}
use Rattle.std.proofs.Common.{refl}
use Rattle.std.proofs.Common.{sym, ap, ◌∙◌, subst, arith, inl, inr}
use Rattle.std.proofs.Common.{AllPairs}
use Rattle.std.proofs.Math.Nat.{div-eq_of_lt}
use Rattle.std.proofs.lemmas.Bool.{cases_lt}
use Rattle.std.proofs.lemmas.List.{length-append, take-append-drop, length-take-le, length-drop, get_or-take}
use Rattle.std.proofs.lemmas.List.{get_or-drop}
use Rattle.std.proofs.lemmas.List.Elements.{Contains-append_left, Contains-append_right, Contains-append_cases}
use Rattle.ipnet_base.specs.Address.{Address, Family, IPv4, IPv6, width, family_index}
use Rattle.ipnet_base.specs.Network.{Network, IsNetwork, InBlock, IsSubnetOf, IsTruncated, IsBefore, host_bits}
use Rattle.ipnet_base.specs.Stack.{IsBeforeOrEqual}
use Rattle.ipnet_base.proofs.BlockLaws.{own, own_in}
use Rattle.ipnet_base.proofs.ListLaws.{all_at}
use Rattle.ipnet_base.proofs.NestingLaws.{subnet_from_own}
use Rattle.ipnet_routes.specs.Routes.{Route, IsLongestMatch}
use Rattle.ipnet_routes.specs.RouteSteps.{IsTable, IsPlaceOf}
use Rattle.ipnet_routes.proofs.RouteLaws.{ascending_of}
use Rattle.ipnet_fewest.specs.Plans.{Plan, routes_for}
use Rattle.ipnet_fewest.specs.Shortest.{HasValue, RouteAlike}
use Rattle.ipnet_fewest.specs.Solved.{IsSolved, IsRouted, IsSameNumber, AreRoutesIn, RoutesAs, HaveValues}
use Rattle.ipnet_fewest.specs.Solved.{AreTableIn}
use Rattle.ipnet_fewest.specs.FewestRoutes.{AreFewestIn, AreFewest, IsWhole}
use Rattle.ipnet_fewest.proofs.InsideLaws.{HasParts, parts}
use Rattle.ipnet_fewest.proofs.MatchLaws.{longest_or_none}
use Rattle.ipnet_fewest.proofs.CutLaws.{to_left, from_left, to_right, from_right}
use Rattle.ipnet_fewest.proofs.MadeLaws.{top_inside, top_truncated, top_as_wanted}
use Rattle.ipnet_fewest.proofs.TableLaws.{pairs_left, pairs_right}

-- ---- one block

module _ (wanted : List (Route ℕ)) (block : Network) (values : List ℕ) (plan : Plan)
    (s : IsSolved wanted 0 block values plan) where
  -- an address of the block has no value, so the block has no route
  pub fewest_without : (v : ℕ) → v ≡ 0 → Contains values v → AreFewestIn wanted block (routes_for plan v)
  fewest_without v e c = record {
    inside = (s.made v c).inside;
    truncated = (s.made v c).truncated;
    as_wanted = subst (λ z. RoutesAs block (routes_for plan v) z wanted 0) e (s.made v c).as_wanted;
    least = λ others inside as_wanted. omega (arith, s.size v c, s.least others 0 inside as_wanted);
  }

  pub fewest_with : (v : ℕ) → (v ≡ 0 → ⊥) → Contains values v → IsNetwork block → IsTruncated block
      → AreFewestIn wanted block (routes_for plan v ++ (block, v) ∷ [])
  fewest_with v out c valid truncated =
      let some : 0 < v = elim (cases_lt 0 v) [ inl lt ↦ lt | inr le ↦ absurd (out (omega (arith, le))) ] in
      let m = s.made v c in
      record {
        inside = top_inside wanted (routes_for plan v) 0 v block valid truncated some m;
        truncated = top_truncated wanted (routes_for plan v) 0 v block valid truncated some m;
        as_wanted = top_as_wanted wanted (routes_for plan v) 0 v block valid truncated some m 0;
        least = λ others inside as_wanted. omega (
          arith,
          s.size v c,
          length-append (routes_for plan v) ((block, v) ∷ []),
          s.least_other others 0 inside as_wanted (λ d. out (s.zero_is_only d v c)),
        );
      }

-- ---- the networks of all addresses

pub in_whole : (f : Family) (whole n : Network) → IsWhole f whole → IsNetwork n → n.family ≡ f → IsSubnetOf n whole
in_whole f whole n w u e =
    let same : n.family ≡ whole.family = e ∙ sym w.of_family in
    let bits : host_bits whole ≡ width whole.family = omega (arith, w.all) in
    subnet_from_own n whole (omega (arith, w.all)) (record {
      same_family = same;
      same_prefix = div-eq_of_lt (subst (λ z. n.number < 2 ^ z) (ap width same ∙ sym bits) u.address_fits)
          ∙ sym (div-eq_of_lt (subst (λ z. whole.number < 2 ^ z) (sym bits) w.network.address_fits));
    })

-- the networks before the first of IPv6 are of IPv4, and the others of IPv6
module _ (four six : Network) (w4 : IsWhole IPv4 four) (w6 : IsWhole IPv6 six) (networks : List Network) (count : ℕ)
    (valid : (n : Network) → Contains networks n → IsNetwork n) (table : IsTable networks)
    (place : IsPlaceOf networks six count) where
  is_ipv4 : (n : Network) → IsNetwork n → IsBefore n six → n.family ≡ IPv4
  is_ipv4 n u before = go n.family refl before
    where
      go : (f : Family) → n.family ≡ f → IsBefore n six → n.family ≡ IPv4
      go IPv4 e b = e
      go IPv6 e (inl lt) = absurd (omega (arith, lt, ap family_index e, ap family_index w6.of_family))
      go IPv6 e (inr (same, inl lt)) = absurd (omega (
        arith,
        lt,
        w6.truncated (own n) (in_whole IPv6 six n w6 u e (own n) (own_in n)),
      ))
      go IPv6 e (inr (same, inr (number, lt))) = absurd (omega (arith, lt, w6.all))

  is_ipv6 : (n : Network) → IsBeforeOrEqual six n → n.family ≡ IPv6
  is_ipv6 n after = go n.family refl after
    where
      go : (f : Family) → n.family ≡ f → IsBeforeOrEqual six n → n.family ≡ IPv6
      go IPv6 e b = e
      go IPv4 e (inl same) = absurd (omega (
        arith,
        ap (λ z. family_index z.family) same,
        ap family_index e,
        ap family_index w6.of_family,
      ))
      go IPv4 e (inr (inl lt)) = absurd (omega (arith, lt, ap family_index e, ap family_index w6.of_family))
      go IPv4 e (inr (inr (same, rest))) = absurd (omega (
        arith,
        ap family_index same,
        ap family_index e,
        ap family_index w6.of_family,
      ))

  whole_list : take count networks ++ drop count networks ≡ networks
  whole_list = take-append-drop count networks

  from_front : (n : Network) → Contains (take count networks) n → Contains networks n
  from_front n c = subst (λ z. Contains z n) whole_list
      (Contains-append_left (take count networks) (drop count networks) n c)

  from_back : (n : Network) → Contains (drop count networks) n → Contains networks n
  from_back n c = subst (λ z. Contains z n) whole_list
      (Contains-append_right (take count networks) (drop count networks) n c)

  pub ipv4_table : AreTableIn four (take count networks)
  ipv4_table =
      let size : length (take count networks) ≡ count = length-take-le count networks place.within in
      record {
        around_truncated = w4.truncated;
        truncated = λ n c. all_at IsTruncated networks table.truncated n (from_front n c);
        ascending = pairs_left IsBefore (take count networks) (drop count networks)
            (subst (λ z. AllPairs IsBefore z) (sym whole_list) (ascending_of networks table));
        within = λ n c. in_whole IPv4 four n w4 (valid n (from_front n c)) (is_ipv4 n (valid n (from_front n c))
            (place.before n (
              c.0,
              omega (arith, c.1, size, place.within),
              sym (get_or-take count networks c.0 n (omega (arith, c.1, size))) ∙ c.2,
            ) (omega (arith, c.1, size))));
      }

  pub ipv6_table : AreTableIn six (drop count networks)
  ipv6_table = record {
    around_truncated = w6.truncated;
    truncated = λ n c. all_at IsTruncated networks table.truncated n (from_back n c);
    ascending = pairs_right IsBefore (take count networks) (drop count networks)
        (subst (λ z. AllPairs IsBefore z) (sym whole_list) (ascending_of networks table));
    within = λ n c. in_whole IPv6 six n w6 (valid n (from_back n c)) (is_ipv6 n (place.from n
        (count + c.0, omega (arith, c.1, length-drop count networks), sym (get_or-drop count networks c.0 n) ∙ c.2)
        (omega arith)));
  }

pub families_apart : (four six : Network) → IsWhole IPv4 four → IsWhole IPv6 six → (x : Address) → InBlock four x
    → InBlock six x → ⊥
families_apart four six w4 w6 x a b = omega (
  arith,
  ap family_index (sym a.same_family ∙ b.same_family),
  ap family_index w4.of_family,
  ap family_index w6.of_family,
)

-- ---- both families

module _ (wanted front back : List (Route ℕ)) (four six : Network)
    (apart : (x : Address) → InBlock four x → InBlock six x → ⊥) (both : front ++ back ≡ wanted)
    (in_four : (r : Route ℕ) → Contains front r → IsSubnetOf r.0 four)
    (in_six : (r : Route ℕ) → Contains back r → IsSubnetOf r.0 six) (values : HaveValues wanted)
    (one : (x : Address) (r s : Route ℕ) → IsLongestMatch wanted x r → IsLongestMatch wanted x s → r ≡ s)
    (made4 made6 : List (Route ℕ)) (f4 : AreFewestIn front four made4) (f6 : AreFewestIn back six made6) where
  abbrev made : List (Route ℕ)
  made = made6 ++ made4

  has_front : (r : Route ℕ) → Contains front r → Contains wanted r
  has_front r c = subst (λ z. Contains z r) both (Contains-append_left front back r c)

  has_back : (r : Route ℕ) → Contains back r → Contains wanted r
  has_back r c = subst (λ z. Contains z r) both (Contains-append_right front back r c)

  wanted_cases : (r : Route ℕ) → Contains wanted r → Contains front r ⊎ Contains back r
  wanted_cases r c = Contains-append_cases front back r (subst (λ z. Contains z r) (sym both) c)

  made_cases : (r : Route ℕ) → Contains made r → Contains made4 r ⊎ Contains made6 r
  made_cases r c = elim (Contains-append_cases made6 made4 r c) [ inl d ↦ inr d | inr d ↦ inl d ]

  has_made4 : (r : Route ℕ) → Contains made4 r → Contains made r
  has_made4 r c = Contains-append_right made6 made4 r c

  has_made6 : (r : Route ℕ) → Contains made6 r → Contains made r
  has_made6 r c = Contains-append_left made6 made4 r c

  -- what the made routes give an address of one of the networks, the wanted routes give it
  routed_in : (x : Address) → InBlock four x ⊎ InBlock six x → (v : ℕ) → IsRouted made 0 x v → IsRouted wanted 0 x v
  routed_in x (inl a) v g =
      from_left front back four six apart in_four in_six wanted has_front has_back wanted_cases x a 0 v
      (f4.as_wanted x a v (to_left made4 made6 four six apart f4.inside.within f6.inside.within made has_made4 has_made6
      made_cases x a 0 v g))
  routed_in x (inr a) v g =
      from_right front back four six apart in_four in_six wanted has_front has_back wanted_cases x a 0 v
      (f6.as_wanted x a v (to_right made4 made6 four six apart f4.inside.within f6.inside.within made has_made4
      has_made6 made_cases x a 0 v g))

  some_of_made : HaveValues made
  some_of_made r c = elim (made_cases r c) [ inl d ↦ f4.inside.some r d | inr d ↦ f6.inside.some r d ]

  place_of_made : (r : Route ℕ) → Contains made r → (x : Address) → InBlock r.0 x → InBlock four x ⊎ InBlock six x
  place_of_made r c x a = elim (made_cases r c) [
    | inl d ↦ inl (f4.inside.within r d x a)
    | inr d ↦ inr (f6.inside.within r d x a)
  ]

  place_of_wanted : (r : Route ℕ) → Contains wanted r → (x : Address) → InBlock r.0 x → InBlock four x ⊎ InBlock six x
  place_of_wanted r c x a = elim (wanted_cases r c) [
    | inl d ↦ inl (in_four r d x a)
    | inr d ↦ inr (in_six r d x a)
  ]

  -- a value that is given is not 0, so it is a route's
  value_of_routed : (routes : List (Route ℕ)) (x : Address) (v : ℕ) → 0 < v → IsRouted routes 0 x v
      → HasValue IsSameNumber routes x v
  value_of_routed routes x v some (inl h) = h
  value_of_routed routes x v some (inr h) = absurd (omega (arith, some, h.1))

  to_wanted : (x : Address) (v : ℕ) → HasValue IsSameNumber made x v → HasValue IsSameNumber wanted x v
  to_wanted x v h =
      let some : 0 < v = subst (λ z. 0 < z) h.is (some_of_made h.route h.matches.member) in
      value_of_routed wanted x v some
      (routed_in x (place_of_made h.route h.matches.member x h.matches.holds) v (inl h))

  to_made : (x : Address) (v : ℕ) → HasValue IsSameNumber wanted x v → HasValue IsSameNumber made x v
  to_made x v h =
      let inside = place_of_wanted h.route h.matches.member x h.matches.holds in
      elim (longest_or_none made x) [
        | inr none ↦ absurd (no_route (routed_in x inside 0 (inr (none, refl))))
        | inl found ↦
            let g : HasValue IsSameNumber made x found.0.1 = record { route = found.0; matches = found.1; is = refl } in
            let k = to_wanted x found.0.1 g in
            record {
              route = found.0;
              matches = found.1;
              is = sym k.is ∙ ap (λ z. z.1) (one x k.route h.route k.matches h.matches) ∙ h.is;
            }
      ]
    where
      no_route : IsRouted wanted 0 x 0 → ⊥
      no_route (inl k) = omega (arith, values k.route k.matches.member, k.is)
      no_route (inr k) = k.0 h.route h.matches.member h.matches.holds

  -- any other list is cut into the routes of both families
  module _ (others : List (Route ℕ)) (valid : (r : Route ℕ) → Contains others r → IsNetwork r.0)
      (some : HaveValues others) (alike : RouteAlike IsSameNumber wanted others)
      (all : (r : Route ℕ) → Contains others r → IsSubnetOf r.0 four ⊎ IsSubnetOf r.0 six) where
    as_wanted : (x : Address) (v : ℕ) → IsRouted others 0 x v → IsRouted wanted 0 x v
    as_wanted x v (inl h) = inl ((alike x v).1 h)
    as_wanted x v (inr h) = inr (
      λ r c b. elim (longest_or_none wanted x) [
        | inr none ↦ none r c b
        | inl found ↦
            let k = (alike x found.0.1).0 (record { route = found.0; matches = found.1; is = refl }) in
            h.0 k.route k.matches.member k.matches.holds
      ],
      h.1,
    )

    cut : HasParts four six others
    cut = parts four six apart others

    only : (r : Route ℕ) → Contains others r → Contains cut.first r ⊎ Contains cut.second r
    only r c = elim (all r c) [ inl s ↦ inl (cut.are.all_first r c s) | inr s ↦ inr (cut.are.all_second r c s) ]

    in_first : AreRoutesIn four cut.first
    in_first = record {
      valid = λ r c. valid r (cut.are.from_first r c);
      within = cut.are.in_first;
      some = λ r c. some r (cut.are.from_first r c);
    }

    in_second : AreRoutesIn six cut.second
    in_second = record {
      valid = λ r c. valid r (cut.are.from_second r c);
      within = cut.are.in_second;
      some = λ r c. some r (cut.are.from_second r c);
    }

    first_as : RoutesAs four cut.first 0 front 0
    first_as x a v g =
        to_left front back four six apart in_four in_six wanted has_front has_back wanted_cases x a 0 v
        (as_wanted x v (from_left cut.first cut.second four six apart cut.are.in_first cut.are.in_second others
        cut.are.from_first cut.are.from_second only x a 0 v g))

    second_as : RoutesAs six cut.second 0 back 0
    second_as x a v g =
        to_right front back four six apart in_four in_six wanted has_front has_back wanted_cases x a 0 v
        (as_wanted x v (from_right cut.first cut.second four six apart cut.are.in_first cut.are.in_second others
        cut.are.from_first cut.are.from_second only x a 0 v g))

    at_least : length made ≤ length others
    at_least = omega (
      arith,
      length-append made6 made4,
      cut.are.few,
      f4.least cut.first in_first first_as,
      f6.least cut.second in_second second_as,
    )

  pub are_fewest : ((n : Network) → IsNetwork n → IsSubnetOf n four ⊎ IsSubnetOf n six) → AreFewest wanted made
  are_fewest all = record {
    valid = λ r c. elim (made_cases r c) [ inl d ↦ f4.inside.valid r d | inr d ↦ f6.inside.valid r d ];
    truncated = λ r c. elim (made_cases r c) [ inl d ↦ f4.truncated r d | inr d ↦ f6.truncated r d ];
    values = some_of_made;
    alike = λ x v. (to_made x v, to_wanted x v);
    least = λ others valid some alike. at_least others valid some alike (λ r c. all r.0 (valid r c));
  }

pub in_either : (four six : Network) → IsWhole IPv4 four → IsWhole IPv6 six → (n : Network) → IsNetwork n
    → IsSubnetOf n four ⊎ IsSubnetOf n six
in_either four six w4 w6 n u = go n.family refl
  where
    go : (f : Family) → n.family ≡ f → IsSubnetOf n four ⊎ IsSubnetOf n six
    go IPv4 e = inl (in_whole IPv4 four n w4 u e)
    go IPv6 e = inr (in_whole IPv6 six n w6 u e)
