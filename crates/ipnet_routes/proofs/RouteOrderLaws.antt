-- Lists of routes put in order, and of each network the last.
use Rattle.std.proofs.Common.{◌≡◌, ◌≢◌, ℕ, suc, ◌+◌, ◌-◌, ◌<◌, ◌≤◌, ◌⊎◌, ◌↔◌, Bool, true, false, not, ◌&&◌}
use Rattle.std.proofs.Common.{List, [], ◌∷◌, ◌++◌, length, map, get_or, take, Contains, All}
use Rattle.std.proofs.Common.{Less, Equal, Greater, Ordering, Option, refl, sym, ap, ◌∙◌, ap₂, subst}
use Rattle.std.proofs.Common.{subst₂, arith, inl, inr}
use Rattle.std.proofs.lemmas.Bool.{cases_lt, cases_Bool}
use Rattle.std.proofs.lemmas.List.{length-map, get_or-map, length_push, get_or_push, get_or_append_left}
use Rattle.std.proofs.lemmas.List.{get_or-take, length-take-le, take_more, take_all}
use Rattle.std.proofs.lemmas.List.{map-append, take-map}
use Rattle.std.proofs.lemmas.List.Elements.{Contains-push, Contains-push_cases, Contains-append_left}
use Rattle.std.proofs.lemmas.List.Quantifiers.{all_pairs_push}
use Rattle.std.specs.List.{filter}
use Rattle.std.specs.List.Sorted.{ties}
use Rattle.std.specs.Ordering.{is_lt, MatchOrdering}
use Rattle.ipnet_base.specs.Network.{Network, IsBefore, IsTruncated, truncation}
use Rattle.ipnet_base.specs.Blocks.{IsAscending}
use Rattle.ipnet_base.specs.Values.{ComparesBy}
use Rattle.ipnet_base.specs.Stack.{IsBeforeOrEqual, IsInOrder}
use Rattle.ipnet_base.proofs.NetworkLaws.{IsTruncated-truncation}
use Rattle.ipnet_base.proofs.ListLaws.{all_at, at_place}
use Rattle.ipnet.specs.declared.net.IpNet.{IpNet}
use Rattle.ipnet.specs.NetworkOf.{ip_network}
use Rattle.ipnet_routes.specs.Routes.{Route, ip_routes, ip_networks, without_host_bits, IsLatest}
use Rattle.ipnet_routes.specs.RouteSteps.{EndsWith, AreOthers}
use Rattle.ipnet_routes.proofs.RouteLaws.{not_back, value_at, network_of_route}
use Rattle.ipnet_routes.proofs.LastPassing.{element_at, last_of, last_of_filter, IsLastPassing, last_passing}
use Rattle.ipnet_routes.proofs.LastPassing.{found_last}

-- a list that is sorted, and that keeps the order of routes with one network, keeps the last route of each network
pub latest_kept : {V : Type 0} (test : IpNet × V → IpNet × V → Bool)
    → ((r x : IpNet × V) → (test r x ≡ true) ↔ (ip_network r.0 ≡ ip_network x.0))
    → (xs ys : List (IpNet × V)) → ((r : IpNet × V) → filter (test r) ys ≡ filter (test r) xs)
    → (q : Route V) → IsLatest (ip_routes xs) q → IsLatest (ip_routes ys) q
latest_kept {V} test same xs ys stable q h = record {
  place = found.place;
  within = omega (arith, found.within, length-map ys route);
  is = get_or-map route ys found.place r q found.within ∙ ap route (found.is r) ∙ named;
  last = λ j d lt l e.
      let inside : j < length ys = omega (arith, l, length-map ys route) in
      found.last j r lt inside ((same r (get_or ys j r)).1 (ap (λ z. z.0) named ∙ sym e
      ∙ ap (λ z. z.0) (get_or-map route ys j r d inside)));
}
  where
    route : IpNet × V → Route V
    route z = (ip_network z.0, z.1)

    some : h.place < length xs
    some = omega (arith, h.within, length-map xs route)

    r : IpNet × V
    r = (element_at xs h.place some).0

    is : (d : IpNet × V) → get_or xs h.place d ≡ r
    is = (element_at xs h.place some).1

    named : route r ≡ q
    named = ap route (sym (is r)) ∙ sym (get_or-map route xs h.place r q some) ∙ h.is

    last : (j : ℕ) (d : IpNet × V) → h.place < j → j < length xs → test r (get_or xs j d) ≡ true → ⊥
    last j d lt l hit =
        h.last j (route d) lt (omega (arith, l, length-map xs route))
        (ap (λ z. z.0) (get_or-map route xs j d (route d) l) ∙ sym ((same r (get_or xs j d)).0 hit)
        ∙ ap (λ z. z.0) named)

    found : IsLastPassing (test r) ys r
    found = last_passing (test r) ys r (sym (last_of_filter (test r) ys) ∙ ap (last_of (test r)) (stable r)
        ∙ last_of_filter (test r) xs
        ∙ found_last (test r) xs r h.place some is ((same r r).1 refl) last)

-- a route at the end is the last of its network, and the last routes of the other networks stay the last
latest_push : {V : Type 0} (given : List (Route V)) (r q : Route V)
    → IsLatest (given ++ r ∷ []) q ↔ ((r ≡ q) ⊎ (IsLatest given q × (q.0 ≢ r.0)))
latest_push {V} given r q = (to, from)
  where
    size : length (given ++ r ∷ []) ≡ length given + 1
    size = length_push given r

    to : IsLatest (given ++ r ∷ []) q → (r ≡ q) ⊎ (IsLatest given q × (q.0 ≢ r.0))
    to h = elim (cases_lt h.place (length given)) [
      | inl lt ↦ inr (
        record {
          place = h.place;
          within = lt;
          is = sym (get_or_append_left given (r ∷ []) q h.place lt) ∙ h.is;
          last = λ j d less l e. h.last j d less (omega (arith, l, size))
              (ap (λ z. z.0) (get_or_append_left given (r ∷ []) d j l) ∙ e);
        },
        λ e. h.last (length given) q lt (omega (arith, size))
            (ap (λ z. z.0) (get_or_push given r q (length given) refl) ∙ sym e),
      )
      | inr ge ↦ inl (sym (get_or_push given r q h.place (omega (arith, ge, h.within, size))) ∙ h.is)
    ]

    from : (r ≡ q) ⊎ (IsLatest given q × (q.0 ≢ r.0)) → IsLatest (given ++ r ∷ []) q
    from (inl e) = record {
      place = length given;
      within = omega (arith, size);
      is = get_or_push given r q (length given) refl ∙ e;
      last = λ j d lt l f. absurd (omega (arith, lt, l, size));
    }
    from (inr (h, other)) = record {
      place = h.place;
      within = omega (arith, h.within, size);
      is = get_or_append_left given (r ∷ []) q h.place h.within ∙ h.is;
      last = λ j d lt l e. elim (cases_lt j (length given)) [
        | inl less ↦ h.last j d lt less (sym (ap (λ z. z.0) (get_or_append_left given (r ∷ []) d j less)) ∙ e)
        | inr ge ↦ other (sym e ∙ ap (λ z. z.0) (get_or_push given r d j (omega (arith, ge, l, size))))
      ];
    }

-- so the list that keeps the last of each network keeps it
pub latest_more : {V : Type 0} (given old front : List (Route V)) (r : Route V)
    → ((q : Route V) → Contains old q ↔ IsLatest given q) → AreOthers old r.0 front
    → (q : Route V) → Contains (front ++ r ∷ []) q ↔ IsLatest (given ++ r ∷ []) q
latest_more given old front r members others q = (
  λ c. elim (Contains-push_cases front r q c) [
    | inl there ↦
        let other = (others q).0 there in
        (latest_push given r q).1 (inr ((members q).0 other.0, other.1))
    | inr same ↦ (latest_push given r q).1 (inl same)
  ],
  λ l. elim ((latest_push given r q).0 l) [
    | inl same ↦ subst (Contains (front ++ r ∷ [])) same (Contains-push front r)
    | inr other ↦ Contains-append_left front (r ∷ []) q ((others q).1 ((members q).1 other.0, other.1))
  ],
)

-- a sorted list of which some were taken: the kept ones are at most the next
pub kept_before : {V : Type 0} (all kept : List (IpNet × V)) (n : ℕ) (r : IpNet × V) → IsInOrder (ip_networks all)
    → n < length all → get_or all n r ≡ r
    → ((q : Route V) → Contains (ip_routes kept) q ↔ IsLatest (ip_routes (take n all)) q)
    → All (λ k. IsBeforeOrEqual k (ip_network r.0)) (ip_networks kept)
kept_before {V} all kept n r order l is members k d m =
    subst (λ z. IsBeforeOrEqual z (ip_network r.0))
    (ap (λ z. z.0) at ∙ sym (get_or-map (λ z. ip_network z.0) kept k r d inside))
    (subst₂ IsBeforeOrEqual place_is next_is
    (order latest.place n (ip_network r.0) (omega (arith, before)) (omega (arith, l, size))))
  where
    route : IpNet × V → Route V
    route z = (ip_network z.0, z.1)

    size : length (ip_networks all) ≡ length all
    size = length-map all (λ z. ip_network z.0)

    inside : k < length kept
    inside = omega (arith, m, length-map kept (λ z. ip_network z.0))

    q : Route V
    q = (ip_network (get_or kept k r).0, (get_or kept k r).1)

    latest : IsLatest (ip_routes (take n all)) q
    latest = (members q).0 (value_at route kept k r inside)

    before : latest.place < n
    before = omega (arith, latest.within, length-map (take n all) route, length-take-le n all (omega (arith, l)))

    at : (ip_network (get_or all latest.place r).0, (get_or all latest.place r).1) ≡ q
    at = ap route (sym (get_or-take n all latest.place r before))
        ∙ sym (get_or-map route (take n all) latest.place r q
        (omega (arith, before, length-take-le n all (omega (arith, l)))))
        ∙ latest.is

    place_is : get_or (ip_networks all) latest.place (ip_network r.0) ≡ ip_network (get_or all latest.place r).0
    place_is = get_or-map (λ z. ip_network z.0) all latest.place r (ip_network r.0) (omega (arith, before, l))

    next_is : get_or (ip_networks all) n (ip_network r.0) ≡ ip_network r.0
    next_is = get_or-map (λ z. ip_network z.0) all n r (ip_network r.0) l ∙ ap (λ z. ip_network z.0) is

not_less_by_order : (a b : IpNet) (o : Ordering) → MatchOrdering o (IsBefore (ip_network a) (ip_network b))
    (ip_network a ≡ ip_network b) (IsBefore (ip_network b) (ip_network a)) → is_lt o ≡ false
    → IsBeforeOrEqual (ip_network b) (ip_network a)
not_less_by_order a b Less p e = absurd (cc)
not_less_by_order a b Equal p e = inl (sym p)
not_less_by_order a b Greater p e = inr p

same_by_order : (a b : IpNet) (o : Ordering) → MatchOrdering o (IsBefore (ip_network a) (ip_network b))
    (ip_network a ≡ ip_network b) (IsBefore (ip_network b) (ip_network a)) → ip_network a ≡ ip_network b
    → is_lt o ≡ false
same_by_order a b Less p e = absurd (not_back (ip_network a) (ip_network b) p (inl (sym e)))
same_by_order a b Equal p e = refl
same_by_order a b Greater p e = refl

-- two networks that tie in the order are equal
equal_by_order : (n k : Network) → IsBeforeOrEqual k n → IsBeforeOrEqual n k → n ≡ k
equal_by_order n k (inl e) h = sym e
equal_by_order n k (inr before) h = absurd (not_back k n before h)

pub tied_by_network : {V : Type 0} {eq : IpNet → IpNet → Bool} {cmp : IpNet → IpNet → Ordering}
    {partial_cmp : IpNet → IpNet → Option Ordering}
    → ((a b : IpNet) → ComparesBy ip_network IsBefore eq cmp partial_cmp a b) → (r x : IpNet × V)
    → (ties (λ a b. is_lt (cmp a.0 b.0)) r x ≡ true) ↔ (ip_network r.0 ≡ ip_network x.0)
tied_by_network {cmp = cmp} compare r x = (
  λ tied. elim (cases_Bool (is_lt (cmp r.0 x.0))) [
    | inl less ↦
        let out : not (is_lt (cmp r.0 x.0)) && not (is_lt (cmp x.0 r.0)) ≡ false = rw (less) refl in absurd (cc)
    | inr not_less ↦ elim (cases_Bool (is_lt (cmp x.0 r.0))) [
      | inl more ↦
          let out : not (is_lt (cmp r.0 x.0)) && not (is_lt (cmp x.0 r.0)) ≡ false = rw (not_less, more) refl in
          absurd (cc)
      | inr not_more ↦ equal_by_order (ip_network r.0) (ip_network x.0)
          (not_less_by_order r.0 x.0 (cmp r.0 x.0) (compare r.0 x.0).order not_less)
          (not_less_by_order x.0 r.0 (cmp x.0 r.0) (compare x.0 r.0).order not_more)
    ]
  ],
  λ same.
      let one : is_lt (cmp r.0 x.0) ≡ false = same_by_order r.0 x.0 (cmp r.0 x.0) (compare r.0 x.0).order same in
      let two : is_lt (cmp x.0 r.0) ≡ false
      = same_by_order x.0 r.0 (cmp x.0 r.0) (compare x.0 r.0).order (sym same) in
      rw (one, two) refl,
)

-- the last of a list
pub ends_at : (networks : List Network) (n : Network) (k : ℕ) → length networks ≡ k + 1 → get_or networks k n ≡ n
    → EndsWith networks n
ends_at networks n k size is = (
  take k networks,
  sym (take_all (k + 1) networks (omega (arith, size))) ∙ take_more networks k n (omega (arith, size))
      ∙ ap (λ z. take k networks ++ z ∷ []) is,
)

pub end_of : (networks : List Network) (n : Network) (k : ℕ) → length networks ≡ k + 1 → EndsWith networks n
    → get_or networks k n ≡ n
end_of networks n k size (front, e) =
    ap (λ z. get_or z k n) e
    ∙ get_or_push front n n k (omega (arith, size, ap length e, length_push front n))

-- all networks before the last are below it
before_last : (networks : List Network) (n : Network) → IsAscending networks → EndsWith networks n → (k : ℕ)
    (d : Network) → k + 1 < length networks → IsBefore (get_or networks k d) n
before_last networks n ascending ends k d l =
    subst (IsBefore (get_or networks k d))
    (at_place networks (length networks - 1) d n (omega (arith, l))
    ∙ end_of networks n (length networks - 1) (omega (arith, l)) ends)
    (ascending k (length networks - 1) d (omega (arith, l)) (omega (arith, l)))

-- if the network is not the last, and no network is above it, then all are below it
before_all : (networks : List Network) (n : Network) → IsAscending networks → All (λ m. IsBeforeOrEqual m n) networks
    → (EndsWith networks n → ⊥) → All (λ m. IsBefore m n) networks
before_all networks n ascending order out k d l = elim (order k d l) [
  | inr before ↦ before
  | inl same ↦ elim (cases_lt (k + 1) (length networks)) [
    | inl more ↦ absurd (not_back (get_or networks k d) (get_or networks (k + 1) d)
        (ascending k (k + 1) d (omega arith) more)
        (subst (IsBeforeOrEqual (get_or networks (k + 1) d)) (sym same) (order (k + 1) d more)))
    | inr end ↦ absurd (out (ends_at networks n k (omega (arith, l, end)) (at_place networks k n d l ∙ same)))
  ]
]

-- routes of networks below another have a different network
other_network : {V : Type 0} (list : List (IpNet × V)) (n : Network) → All (λ m. IsBefore m n) (ip_networks list)
    → (q : Route V) → Contains (ip_routes list) q → q.0 ≢ n
other_network list n before q c e =
    not_back q.0 n (all_at (λ m. IsBefore m n) (ip_networks list) before q.0 (network_of_route list q c)) (inl (sym e))

others_all : {V : Type 0} (list : List (IpNet × V)) (n : Network) → All (λ m. IsBefore m n) (ip_networks list)
    → AreOthers (ip_routes list) n (ip_routes list)
others_all list n before q = (λ c. (c, other_network list n before q c), λ p. p.0)

-- without the last
front_at : {V : Type 0} (list : List (IpNet × V)) (k j : ℕ) (d : Network) → k ≤ length list
    → j < length (ip_networks (take k list))
    → (j < k) × (get_or (ip_networks (take k list)) j d ≡ get_or (ip_networks list) j d)
front_at list k j d le l =
    let lt : j < k = omega (arith, l, length-map (take k list) (λ z. ip_network z.0), length-take-le k list le) in (
      lt,
      ap (λ z. get_or z j d) (sym (take-map (λ z. ip_network z.0) k list)) ∙ get_or-take k (ip_networks list) j d lt,
    )

ascending_front : {V : Type 0} (list : List (IpNet × V)) (k : ℕ) → k ≤ length list → IsAscending (ip_networks list)
    → IsAscending (ip_networks (take k list))
ascending_front list k le ascending i j d lt l =
    let at_j = front_at list k j d le l in
    let at_i = front_at list k i d le (omega (arith, lt, l)) in
    subst₂ IsBefore (sym at_i.1) (sym at_j.1)
    (ascending i j d lt (omega (arith, at_j.0, le, length-map list (λ z. ip_network z.0))))

before_front : {V : Type 0} (list : List (IpNet × V)) (n : Network) (k : ℕ) → length list ≡ k + 1
    → IsAscending (ip_networks list) → EndsWith (ip_networks list) n
    → All (λ m. IsBefore m n) (ip_networks (take k list))
before_front list n k size ascending ends j d l =
    let at_j = front_at list k j d (omega (arith, size)) l in
    subst (λ z. IsBefore z n) (sym at_j.1)
    (before_last (ip_networks list) n ascending ends j d
    (omega (arith, at_j.0, size, length-map list (λ z. ip_network z.0))))

others_front : {V : Type 0} (list : List (IpNet × V)) (n : Network) (k : ℕ) → length list ≡ k + 1
    → EndsWith (ip_networks list) n → All (λ m. IsBefore m n) (ip_networks (take k list))
    → AreOthers (ip_routes list) n (ip_routes (take k list))
others_front {V} list n k size ends before q = (to, from)
  where
    route : IpNet × V → Route V
    route z = (ip_network z.0, z.1)

    whole : length (map route list) ≡ length list
    whole = length-map list route

    part : length (map route (take k list)) ≡ k
    part = length-map (take k list) route ∙ length-take-le k list (omega (arith, size))

    front : take k (map route list) ≡ map route (take k list)
    front = take-map route k list

    to : Contains (ip_routes (take k list)) q → Contains (ip_routes list) q × (q.0 ≢ n)
    to c = (
      (
        c.0,
        omega (arith, c.1, part, whole, size),
        sym (get_or-take k (map route list) c.0 q (omega (arith, c.1, part))) ∙ ap (λ z. get_or z c.0 q) front ∙ c.2,
      ),
      other_network (take k list) n before q c,
    )

    from : Contains (ip_routes list) q × (q.0 ≢ n) → Contains (ip_routes (take k list)) q
    from (c, other) = elim (cases_lt c.0 k) [
      | inl lt ↦ (
        c.0,
        omega (arith, lt, part),
        ap (λ z. get_or z c.0 q) (sym front) ∙ get_or-take k (map route list) c.0 q lt ∙ c.2,
      )
      | inr ge ↦
          let l : c.0 < length list = omega (arith, c.1, whole) in
          let r = (element_at list c.0 l).0 in
          let same : c.0 ≡ k = omega (arith, ge, l, size) in
          absurd (other (ap (λ z. z.0) (sym c.2 ∙ get_or-map route list c.0 r q l)
          ∙ sym (get_or-map (λ z. ip_network z.0) list c.0 r n l)
          ∙ ap (λ i. get_or (ip_networks list) i n) same
          ∙ end_of (ip_networks list) n k (omega (arith, size, length-map list (λ z. ip_network z.0))) ends))
    ]

-- the list without its last route, if that has the network; otherwise the list
pub dropped : {V : Type 0} (old new : List (IpNet × V)) (n : Network) → IsAscending (ip_networks old)
    → All (λ m. IsBeforeOrEqual m n) (ip_networks old)
    → ((EndsWith (ip_networks old) n → ⊥) × (new ≡ old))
    ⊎ (EndsWith (ip_networks old) n × (new ≡ take (length old - 1) old))
    → IsAscending (ip_networks new) × All (λ m. IsBefore m n) (ip_networks new)
    × AreOthers (ip_routes old) n (ip_routes new)
dropped {V} old new n ascending order (inl (out, e)) =
    let before : All (λ m. IsBefore m n) (ip_networks old) = before_all (ip_networks old) n ascending order out in
    subst (λ z. IsAscending (ip_networks z) × All (λ m. IsBefore m n) (ip_networks z)
    × AreOthers (ip_routes old) n (ip_routes z)) (sym e) (ascending, before, others_all old n before)
dropped {V} old new n ascending order (inr (ends, e)) =
    let size : length old ≡ length old - 1 + 1
    = omega (arith, ap length ends.1, length_push ends.0 n, length-map old (λ z. ip_network z.0)) in
    let before : All (λ m. IsBefore m n) (ip_networks (take (length old - 1) old))
    = before_front old n (length old - 1) size ascending ends in
    subst (λ z. IsAscending (ip_networks z) × All (λ m. IsBefore m n) (ip_networks z)
    × AreOthers (ip_routes old) n (ip_routes z)) (sym e) (
      ascending_front old (length old - 1) (omega arith) ascending,
      before,
      others_front old n (length old - 1) size ends before,
    )

-- two lists with equal images, element by element
pub same_map : {X Y : Type 0} (f g : X → Y) (xs ys : List X) → length xs ≡ length ys
    → ((k : ℕ) (d : X) → k < length xs → f (get_or xs k d) ≡ g (get_or ys k d)) → map f xs ≡ map g ys
same_map f g [] [] size h = refl
same_map f g [] (y ∷ ys) size h = absurd (omega (arith, size))
same_map f g (x ∷ xs) [] size h = absurd (omega (arith, size))
same_map f g (x ∷ xs) (y ∷ ys) size h =
    ap₂ (λ z zs. z ∷ zs) (h 0 x (omega arith))
    (same_map f g xs ys (omega (arith, size)) (λ k d l. h (suc k) d (omega (arith, l))))

-- what is kept of routes without host bits has none
pub truncated_kept : {V : Type 0} (given : List (Route V)) (kept : List (IpNet × V))
    → ((q : Route V) → Contains (ip_routes kept) q → IsLatest (without_host_bits given) q)
    → All IsTruncated (ip_networks kept)
truncated_kept {V} given kept members k d l =
    subst IsTruncated
    (sym (ap (λ z. z.0) (get_or-map cut given latest.place found.0 q some ∙ ap cut (found.1 found.0)))
    ∙ ap (λ z. z.0) latest.is ∙ sym (get_or-map (λ z. ip_network z.0) kept k r d inside))
    (IsTruncated-truncation found.0.0)
  where
    inside : k < length kept
    inside = omega (arith, l, length-map kept (λ z. ip_network z.0))

    r : IpNet × V
    r = (element_at kept k inside).0

    q : Route V
    q = (ip_network (get_or kept k r).0, (get_or kept k r).1)

    latest : IsLatest (without_host_bits given) q
    latest = members q (value_at (λ z. (ip_network z.0, z.1)) kept k r inside)

    cut : Route V → Route V
    cut z = (truncation z.0, z.1)

    some : latest.place < length given
    some = omega (arith, latest.within, length-map given cut)

    found : (g : Route V) × ((d : Route V) → get_or given latest.place d ≡ g)
    found = element_at given latest.place some

-- the list without host bits, put in order, of each network the last
pub table_members : {V : Type 0} (given cut sorted kept : List (IpNet × V))
    → ip_routes cut ≡ without_host_bits (ip_routes given)
    → ((q : Route V) → IsLatest (ip_routes sorted) q ↔ IsLatest (ip_routes cut) q)
    → ((q : Route V) → Contains (ip_routes kept) q ↔ IsLatest (ip_routes sorted) q)
    → (q : Route V) → Contains (ip_routes kept) q ↔ IsLatest (without_host_bits (ip_routes given)) q
table_members given cut sorted kept e same last q =
    subst (λ z. Contains (ip_routes kept) q ↔ IsLatest z q) e
    (λ h. (same q).0 ((last q).0 h), λ h. (last q).1 ((same q).1 h))

-- one more route, with a network above the others
pub ascending_push : {V : Type 0} (front : List (IpNet × V)) (r : IpNet × V) → IsAscending (ip_networks front)
    → All (λ m. IsBefore m (ip_network r.0)) (ip_networks front) → IsAscending (ip_networks (front ++ r ∷ []))
ascending_push front r ascending before =
    subst IsAscending (sym (map-append (λ z. ip_network z.0) front (r ∷ [])))
    (all_pairs_push IsBefore (ip_networks front) (ip_network r.0) ascending before)
