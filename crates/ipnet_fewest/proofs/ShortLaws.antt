-- The table of a list of routes without host bits routes as the list does, and has no more routes.
use Rattle.std.proofs.Common.{◌≡◌, ◌≢◌, ℕ, zero, suc, ◌<◌, ◌≤◌, ◌⊎◌, List, [], ◌∷◌, length, get_or}
use Rattle.std.proofs.Common.{Contains}
use Rattle.std.proofs.Common.{AllPairs, Ordering, refl, sym, ap, ap₂, ◌∙◌, subst, subst₂, arith, inl, inr}
use Rattle.std.proofs.lemmas.List.{length-map, get_or-map}
use Rattle.std.proofs.lemmas.Cmp.{tied_itself}
use Rattle.std.specs.Cmp.{IsTotalOrder}
use Rattle.ipnet_base.specs.Address.{Address}
use Rattle.ipnet_base.specs.Network.{Network, InBlock, IsTruncated, IsBefore, truncation}
use Rattle.ipnet_base.proofs.ListLaws.{contains_nil, contains_here, contains_there, contains_cases, at_place}
use Rattle.ipnet_base.proofs.ListLaws.{partners_no_more}
use Rattle.ipnet_base.proofs.NetworkLaws.{truncation_of_truncated}
use Rattle.ipnet_base.proofs.OrderLaws.{IsBefore-asymmetric, order_total}
use Rattle.ipnet_routes.specs.Routes.{Route, without_host_bits, IsLatest, IsTableOf, IsLongestMatch}
use Rattle.ipnet_fewest.specs.Shortest.{AreEqualBy, HasValue, RouteAlike}
use Rattle.ipnet_fewest.proofs.MatchLaws.{longest_or_none}

not_before_itself : (n k : Network) → n ≡ k → IsBefore n k → ⊥
not_before_itself n k e before =
    let same : IsBefore n n = subst (IsBefore n) (sym e) before in
    IsBefore-asymmetric n n same same

same_decided : (n k : Network) → (n ≡ k) ⊎ (n ≢ k)
same_decided n k = elim (order_total n k) [
  | inl (inl e) ↦ inl e
  | inl (inr before) ↦ inr (λ e. not_before_itself n k e before)
  | inr before ↦ inr (λ e. not_before_itself k n (sym e) before)
]

-- the last route of a network in a list
latest_of : {V : Type 0} (routes : List (Route V)) (n : Network)
    → ((q : Route V) × IsLatest routes q × (q.0 ≡ n)) ⊎ ((r : Route V) → Contains routes r → r.0 ≢ n)
latest_of [] n = inr (λ r c e. contains_nil r c)
latest_of {V} (t ∷ routes) n = elim (latest_of routes n) [
  | inl found ↦ inl (
    found.0,
    record {
      place = suc found.1.place;
      within = omega (arith, found.1.within);
      is = found.1.is;
      last = later found.0 found.1;
    },
    found.2,
  )
  | inr none ↦ elim (same_decided t.0 n) [
    | inl e ↦ inl (t, record { place = 0; within = omega arith; is = refl; last = only e none }, e)
    | inr out ↦ inr (λ r c e. elim (contains_cases t routes r c) [
      | inl same ↦ out (ap (λ z. z.0) same ∙ e)
      | inr d ↦ none r d e
    ])
  ]
]
  where
    later : (q : Route V) (l : IsLatest routes q) (k : ℕ) (d : Route V) → suc l.place < k → k < length (t ∷ routes)
        → (get_or (t ∷ routes) k d).0 ≢ q.0
    later q l zero d lt le = absurd (omega (arith, lt))
    later q l (suc k) d lt le = l.last k d (omega (arith, lt)) (omega (arith, le))

    only : t.0 ≡ n → ((r : Route V) → Contains routes r → r.0 ≢ n) → (k : ℕ) (d : Route V) → 0 < k
        → k < length (t ∷ routes) → (get_or (t ∷ routes) k d).0 ≢ t.0
    only e none zero d lt le same = absurd (omega (arith, lt))
    only e none (suc k) d lt le same =
        let small : k < length routes = omega (arith, le) in
        none (get_or routes k d) (k, small, at_place routes k (get_or routes k d) d small) (same ∙ e)

uncut : {V : Type 0} (routes : List (Route V)) → ((r : Route V) → Contains routes r → IsTruncated r.0)
    → without_host_bits routes ≡ routes
uncut [] h = refl
uncut {V} (r ∷ routes) h =
    let head : (truncation r.0, r.1) ≡ r =
    ap (λ n. (n, r.1)) (truncation_of_truncated r.0 (h r (contains_here r routes))) in
    ap₂ (λ x xs. x ∷ xs) head (uncut routes (λ q c. h q (contains_there r routes q c)))

module _ {V : Type 0} (list table : List (Route V)) (t : IsTableOf list table)
    (truncated : (r : Route V) → Contains list r → IsTruncated r.0) where
  same_list : without_host_bits list ≡ list
  same_list = uncut list truncated

  in_list : (r : Route V) → Contains table r → Contains list r
  in_list r c =
      let l : IsLatest list r = subst (λ z. IsLatest z r) same_list ((t.members r).0 c) in
      (l.place, l.within, l.is)

  in_table : (r : Route V) → Contains list r → (q : Route V) × Contains table q × (q.0 ≡ r.0)
  in_table r c = elim (latest_of list r.0) [
    | inl found ↦ (
      found.0,
      (t.members found.0).1 (subst (λ z. IsLatest z found.0) (sym same_list) found.1),
      found.2,
    )
    | inr none ↦ absurd (none r c refl)
  ]

  pub no_more : length table ≤ length list
  no_more = partners_no_more (λ x y. x ≡ y) table list (λ x c. (x, in_list x c, refl)) apart
    where
      network : Route V → Network
      network r = r.0

      apart : AllPairs (λ x z. (y : Route V) → x ≡ y → z ≡ y → ⊥) table
      apart i j d lt l y e g =
          let before : IsBefore (get_or table i d).0 (get_or table j d).0 =
          subst₂ IsBefore (get_or-map network table i d d.0 (omega (arith, lt, l)))
          (get_or-map network table j d d.0 l) (t.ascending i j d.0 lt (omega (arith, l, length-map table network))) in
          not_before_itself (get_or table i d).0 (get_or table j d).0 (ap network (e ∙ sym g)) before

  longest_in_list : (x : Address) (r : Route V) → IsLongestMatch table x r → IsLongestMatch list x r
  longest_in_list x r m = record {
    member = in_list r m.member;
    holds = m.holds;
    longest = λ other c b.
        let (q, d, e) = in_table other c in
        omega (
          arith,
          m.longest q d (subst (λ n. InBlock n x) (sym e) b),
          ap (λ (n : Network). n.prefix_len) e,
        );
  }

  -- a table that routes as the list does
  module _ (cmp : V → V → Ordering) (o : IsTotalOrder cmp) (given : List (Route V))
      (alike : RouteAlike (AreEqualBy cmp) given list)
      (one : (x : Address) (r s : Route V) → IsLongestMatch given x r → IsLongestMatch given x s → r ≡ s) where
    back : (x : Address) (v : V) → HasValue (AreEqualBy cmp) table x v → HasValue (AreEqualBy cmp) given x v
    back x v h = (alike x v).1 (record {
      route = h.route;
      matches = longest_in_list x h.route h.matches;
      is = h.is;
    })

    to : (x : Address) (v : V) → HasValue (AreEqualBy cmp) given x v → HasValue (AreEqualBy cmp) table x v
    to x v h =
        let g = (alike x v).0 h in
        let (q, c, e) = in_table g.route g.matches.member in
        elim (longest_or_none table x) [
          | inr none ↦ absurd (none q c (subst (λ n. InBlock n x) (sym e) g.matches.holds))
          | inl found ↦
              let k = back x found.0.1 (record {
                route = found.0;
                matches = found.1;
                is = tied_itself o found.0.1;
              }) in
              let same : h.route ≡ k.route = one x h.route k.route h.matches k.matches in
              record {
                route = found.0;
                matches = found.1;
                is =
                    sym (o.congr k.route.1 found.0.1 v k.is) ∙ ap (λ (z : Route V). cmp z.1 v) (sym same) ∙ h.is;
              }
        ]

    pub table_alike : RouteAlike (AreEqualBy cmp) given table
    table_alike x v = (to x v, back x v)
