-- Routes with other values of the same networks, and the table of a list of routes.
use Rattle.std.proofs.Common.{◌≡◌, ℕ, ◌+◌, ◌-◌, ◌<◌, ◌≤◌, List, [], ◌∷◌, length, map, get_or, Contains}
use Rattle.std.proofs.Common.{min, Ordering, Equal, refl, sym, ap, ◌∙◌, subst, arith}
use Rattle.std.proofs.lemmas.List.{length-map, get_or-map}
use Rattle.std.specs.Cmp.{IsTotalOrder}
use Rattle.std.specs.List.Sorted.{IsSorted}
use Rattle.std.proofs.lemmas.Cmp.{tied_itself, tied_back}
use Rattle.ipnet_base.specs.Address.{Address}
use Rattle.ipnet_base.specs.Network.{Network, IsNetwork, InBlock}
use Rattle.ipnet_routes.specs.Routes.{Route, networks_of, IsLongestMatch}
use Rattle.ipnet_routes.proofs.LastPassing.{element_at}
use Rattle.ipnet_fewest.specs.Shortest.{AreEqualBy, HasValue, RouteAlike}
use Rattle.ipnet_fewest.specs.Numbers.{IsRank, HasValuesOf, AreNumbered, AreValued}
use Rattle.ipnet_fewest.specs.Solved.{IsSameNumber}
use Rattle.ipnet_fewest.specs.FewestRoutes.{AreFewest}
use Rattle.ipnet_fewest.proofs.RankLaws.{count_less, rank_is_count, count_same, rank_below, value_at_rank}

-- Each route of the one list has a route of the other with the same network and a related value, and back.
pub record Correspond {V W : Type 0} (Relates : V → W → Type 0) (routes : List (Route V)) (others : List (Route W))
    : Type 0 where
  pub to : (r : Route V) → Contains routes r → (q : Route W) × Contains others q × (r.0 ≡ q.0) × Relates r.1 q.1
  pub back : (q : Route W) → Contains others q → (r : Route V) × Contains routes r × (r.0 ≡ q.0) × Relates r.1 q.1

-- routes at the same places correspond
pub by_places : {V W : Type 0} (Relates : V → W → Type 0) (routes : List (Route V)) (others : List (Route W))
    → networks_of others ≡ networks_of routes
    → ((i : ℕ) (d : Route V) (e : Route W) → i < length routes → Relates (get_or routes i d).1 (get_or others i e).1)
    → Correspond Relates routes others
by_places {V} {W} Relates routes others same values = record {
  to = λ r c.
      let x = element_at others c.0 (omega (arith, size, c.1)) in (
        x.0,
        (c.0, omega (arith, size, c.1), x.1 x.0),
        sym (ap (λ (z : Route W). z.0) (sym (x.1 x.0)) ∙ network_at c.0 r x.0 c.1 ∙ ap (λ (z : Route V). z.0) c.2),
        subst (λ (z : Route V). Relates z.1 x.0.1) c.2
            (subst (λ (z : Route W). Relates (get_or routes c.0 r).1 z.1) (x.1 x.0) (values c.0 r x.0 c.1)),
      );
  back = λ q c.
      let lt : c.0 < length routes = omega (arith, size, c.1) in
      let x = element_at routes c.0 lt in (
        x.0,
        (c.0, lt, x.1 x.0),
        sym (ap (λ (z : Route W). z.0) (sym c.2) ∙ network_at c.0 x.0 q lt ∙ ap (λ (z : Route V). z.0) (x.1 x.0)),
        subst (λ (z : Route V). Relates z.1 q.1) (x.1 x.0)
            (subst (λ (z : Route W). Relates (get_or routes c.0 x.0).1 z.1) c.2 (values c.0 x.0 q lt)),
      );
}
  where
    size : length others ≡ length routes
    size = omega (
      arith,
      ap length same,
      length-map others (λ (z : Route W). z.0),
      length-map routes (λ (z : Route V). z.0),
    )

    network_at : (i : ℕ) (d : Route V) (e : Route W) → i < length routes → (get_or others i e).0 ≡ (get_or routes i d).0
    network_at i d e lt =
        sym (get_or-map (λ (z : Route W). z.0) others i e d.0 (omega (arith, size, lt)))
        ∙ ap (λ ns. get_or ns i d.0) same ∙ get_or-map (λ (z : Route V). z.0) routes i d d.0 lt

module _ {V W : Type 0} (Relates : V → W → Type 0) (routes : List (Route V)) (others : List (Route W))
    (h : Correspond Relates routes others) (x : Address) where
  pub longest_to : (r : Route V) → IsLongestMatch routes x r
      → (q : Route W) × IsLongestMatch others x q × (r.0 ≡ q.0) × Relates r.1 q.1
  longest_to r m =
      let (q, c, e, related) = h.to r m.member in (
        q,
        record {
          member = c;
          holds = subst (λ n. InBlock n x) e m.holds;
          longest = λ o d b.
              let (s, f, g, other) = h.back o d in
              omega (
                arith,
                m.longest s f (subst (λ n. InBlock n x) (sym g) b),
                ap (λ (n : Network). n.prefix_len) e,
                ap (λ (n : Network). n.prefix_len) g,
              );
        },
        e,
        related,
      )

  pub longest_back : (q : Route W) → IsLongestMatch others x q
      → (r : Route V) × IsLongestMatch routes x r × (r.0 ≡ q.0) × Relates r.1 q.1
  longest_back q m =
      let (r, c, e, related) = h.back q m.member in (
        r,
        record {
          member = c;
          holds = subst (λ n. InBlock n x) (sym e) m.holds;
          longest = λ o d b.
              let (s, f, g, other) = h.to o d in
              omega (
                arith,
                m.longest s f (subst (λ n. InBlock n x) g b),
                ap (λ (n : Network). n.prefix_len) e,
                ap (λ (n : Network). n.prefix_len) g,
              );
        },
        e,
        related,
      )

-- ---- a table, its numbers, the fewest routes for these, and their values

abbrev Numbers : {V : Type 0} → (V → V → Ordering) → List V → V → ℕ → Type 0
Numbers cmp values v n = (k : ℕ) × (k + 1 ≡ n) × IsRank cmp values v k

abbrev ValueOf : {V : Type 0} → List V → ℕ → V → Type 0
ValueOf {V} values n v = (d : V) → v ≡ get_or values (min (n - 1) (length values - 1)) d

module _ {V : Type 0} (cmp : V → V → Ordering) (o : IsTotalOrder cmp) (table : List (Route V)) (values : List V)
    (sorted : IsSorted cmp values) (has : HasValuesOf cmp table values) (numbers made : List (Route ℕ))
    (num : AreNumbered cmp values table numbers) (f : AreFewest numbers made) (list : List (Route V))
    (val : AreValued values made list) where
  of_numbers : Correspond (Numbers cmp values) table numbers
  of_numbers = by_places (Numbers cmp values) table numbers num.networks num.ranks

  pub of_values : Correspond (ValueOf values) made list
  of_values = by_places (ValueOf values) made list val.networks (λ i d e lt v. val.values_are i e d v lt)

  -- the value for the number of a value is equal to it
  value_back : (r : Route V) → Contains table r → (n : ℕ) (v : V) → Numbers cmp values r.1 n → ValueOf values n v
      → cmp v r.1 ≡ Equal
  value_back r c n v (k, e, rank) is =
      let lt : k < length values = rank_below cmp o values r.1 (has r c) k rank in
      let same : min (n - 1) (length values - 1) ≡ k = omega (arith, e, lt) in
      ap (λ z. cmp z r.1) (is v ∙ ap (λ i. get_or values i v) same)
      ∙ value_at_rank cmp o values sorted r.1 (has r c) k rank v

  pub list_alike : RouteAlike (AreEqualBy cmp) table list
  list_alike x v = (to, back)
    where
      to : HasValue (AreEqualBy cmp) table x v → HasValue (AreEqualBy cmp) list x v
      to h =
          let (q, m, same, number) = longest_to (Numbers cmp values) table numbers of_numbers x h.route h.matches in
          let g = (f.alike x q.1).0 (record { route = q; matches = m; is = refl }) in
          let (l, n, same_too, value) = longest_to (ValueOf values) made list of_values x g.route g.matches in
          record {
            route = l;
            matches = n;
            is = o.congr l.1 h.route.1 v (value_back h.route h.matches.member q.1 l.1 number
                (subst (λ z. ValueOf values z l.1) g.is value)) ∙ h.is;
          }

      back : HasValue (AreEqualBy cmp) list x v → HasValue (AreEqualBy cmp) table x v
      back h =
          let (p, m, same, value) = longest_back (ValueOf values) made list of_values x h.route h.matches in
          let g = (f.alike x p.1).1 (record { route = p; matches = m; is = refl }) in
          let (r, n, same_too, number) =
          longest_back (Numbers cmp values) table numbers of_numbers x g.route g.matches in
          record {
            route = r;
            matches = n;
            is = o.congr r.1 h.route.1 v (tied_back o h.route.1 r.1 (value_back r n.member g.route.1 h.route.1 number
                (subst (λ z. ValueOf values z h.route.1) (sym g.is) value))) ∙ h.is;
          }

  -- ---- any other list, with numbers in the place of its values

  module _ (others : List (Route V)) (valid : (r : Route V) → Contains others r → IsNetwork r.0)
      (alike : RouteAlike (AreEqualBy cmp) table others) where
    abbrev renumber : Route V → Route ℕ
    renumber r = (r.0, count_less cmp values r.1 + 1)

    abbrev renumbered : List (Route ℕ)
    renumbered = map renumber others

    abbrev IsCount : V → ℕ → Type 0
    IsCount v n = n ≡ count_less cmp values v + 1

    of_counts : Correspond IsCount others renumbered
    of_counts = by_places IsCount others renumbered (same_list others)
        (λ i d e lt. ap (λ z. z.1) (get_or-map renumber others i d e lt))
      where
        same_list : (rs : List (Route V)) → networks_of (map renumber rs) ≡ networks_of rs
        same_list [] = refl
        same_list (r ∷ rs) = ap (λ ns. r.0 ∷ ns) (same_list rs)

    same_count : (v w : V) (n : ℕ) → cmp v w ≡ Equal → Numbers cmp values w n → n ≡ count_less cmp values v + 1
    same_count v w n e (k, is, rank) =
        omega (arith, is, rank_is_count cmp values w k rank, count_same cmp o values v w e)

    numbers_alike : RouteAlike IsSameNumber numbers renumbered
    numbers_alike x n = (to, back)
      where
        to : HasValue IsSameNumber numbers x n → HasValue IsSameNumber renumbered x n
        to h =
            let (r, m, same, number) = longest_back (Numbers cmp values) table numbers of_numbers x h.route h.matches in
            let g = (alike x r.1).0 (record { route = r; matches = m; is = tied_itself o r.1 }) in
            let (t, k, same_too, count) = longest_to IsCount others renumbered of_counts x g.route g.matches in
            record {
              route = t;
              matches = k;
              is = count ∙ sym (same_count g.route.1 r.1 h.route.1 g.is number) ∙ h.is;
            }

        back : HasValue IsSameNumber renumbered x n → HasValue IsSameNumber numbers x n
        back h =
            let (s, m, same, count) = longest_back IsCount others renumbered of_counts x h.route h.matches in
            let g = (alike x s.1).1 (record { route = s; matches = m; is = tied_itself o s.1 }) in
            let (q, k, same_too, number) =
            longest_to (Numbers cmp values) table numbers of_numbers x g.route g.matches in
            record {
              route = q;
              matches = k;
              is = same_count s.1 g.route.1 q.1 (tied_back o g.route.1 s.1 g.is) number ∙ sym count ∙ h.is;
            }

    pub made_at_least : length made ≤ length others
    made_at_least = omega (
      arith,
      length-map others renumber,
      f.least renumbered
          (λ q c. let (r, d, e, count) = of_counts.back q c in subst IsNetwork e (valid r d))
          (λ q c. let (r, d, e, count) = of_counts.back q c in omega (arith, count)) numbers_alike,
    )
