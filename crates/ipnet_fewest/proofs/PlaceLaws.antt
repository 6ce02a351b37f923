-- The place of a network in a table: the first network that is not before it.
use Rattle.std.proofs.Common.{◌≡◌, ℕ, ◌<◌, ◌≤◌, Bool, true, false, Option, List, length, get_or, Ordering, Contains}
use Rattle.std.proofs.Common.{sym, ap, ◌∙◌, subst, arith, inl, inr}
use Rattle.std.specs.List.Sorted.{IsPartitionedBy, IsPartitionPoint}
use Rattle.std.specs.Ordering.{partial_lt}
use Rattle.std.proofs.lemmas.Bool.{cases_eq, true_from_ne_false}
use Rattle.std.proofs.lemmas.List.{length-map, get_or-map}
use Rattle.ipnet_base.specs.Network.{Network, IsBefore}
use Rattle.ipnet_base.specs.Stack.{IsBeforeOrEqual}
use Rattle.ipnet_base.specs.Values.{ComparesBy}
use Rattle.ipnet_base.proofs.ListLaws.{pair_at}
use Rattle.ipnet_base.proofs.OrderLaws.{IsBefore-transitive}
use Rattle.ipnet.specs.declared.net.IpNet.{IpNet}
use Rattle.ipnet.specs.NetworkOf.{ip_network}
use Rattle.ipnet_routes.specs.Routes.{ip_networks}
use Rattle.ipnet_routes.specs.RouteSteps.{IsTable, IsPlaceOf}
use Rattle.ipnet_routes.proofs.LastPassing.{element_at}
use Rattle.ipnet_routes.proofs.RouteLaws.{not_back, ascending_of, value_at, less_gives, not_less_gives}

module _ (eq : IpNet → IpNet → Bool) (cmp : IpNet → IpNet → Ordering) (partial_cmp : IpNet → IpNet → Option Ordering)
    (compare : (a b : IpNet) → ComparesBy ip_network IsBefore eq cmp partial_cmp a b) where
  -- the route's network is before the network
  abbrev pub is_before : IpNet → IpNet × ℕ → Bool
  is_before n r = partial_lt partial_cmp r.0 n

  before_gives : (a b : IpNet) → IsBefore (ip_network a) (ip_network b) → partial_lt partial_cmp a b ≡ true
  before_gives a b h = true_from_ne_false (partial_lt partial_cmp a b)
      (λ e. not_back (ip_network a) (ip_network b) h (not_less_gives a b (compare a b) e))

  -- the networks before it come first
  pub are_parted : (routes : List (IpNet × ℕ)) → IsTable (ip_networks routes) → (n : IpNet)
      → IsPartitionedBy (is_before n) routes
  are_parted routes table n i j d le l less = elim (cases_eq i j) [
    | inl same ↦ subst (λ k. is_before n (get_or routes k d) ≡ true) (sym same) less
    | inr other ↦
        let first = (get_or routes i d).0 in
        let later = (get_or routes j d).0 in
        before_gives first n
        (IsBefore-transitive (ip_network first) (ip_network later) (ip_network n)
        (pair_at IsBefore (ip_networks routes) (ascending_of (ip_networks routes) table) (ip_network first)
        (ip_network later) (value_at (λ r. ip_network r.0) routes i d (omega (arith, le, l)))
        (value_at (λ r. ip_network r.0) routes j d l) (omega (arith, le, other)))
        (less_gives later n (compare later n) less))
  ]

  -- the place from which on no network is before it
  pub place_from : (routes : List (IpNet × ℕ)) (n : IpNet) (place : ℕ) → place ≤ length routes
      → IsPartitionPoint (λ r. is_before n r ≡ true) (λ r. is_before n r ≡ false) routes place
      → IsPlaceOf (ip_networks routes) (ip_network n) place
  place_from routes n place within point = record {
    within = omega (arith, within, length-map routes (λ r. ip_network r.0));
    before = λ k c low.
        let inside : c.0 < length routes = omega (arith, c.1, length-map routes (λ r. ip_network r.0)) in
        let (r, at) = element_at routes c.0 inside in
        subst (λ z. IsBefore z (ip_network n)) (of_route k c r (at r) inside)
        (less_gives r.0 n (compare r.0 n)
        (subst (λ z. is_before n z ≡ true) (at r) (point.0 c.0 r (omega arith) low)));
    from = λ k c high.
        let inside : c.0 < length routes = omega (arith, c.1, length-map routes (λ r. ip_network r.0)) in
        let (r, at) = element_at routes c.0 inside in
        subst (IsBeforeOrEqual (ip_network n)) (of_route k c r (at r) inside)
        (not_less_gives r.0 n (compare r.0 n)
        (subst (λ z. is_before n z ≡ false) (at r) (point.1 c.0 r high inside)));
  }
    where
      of_route : (k : Network) (c : Contains (ip_networks routes) k) (r : IpNet × ℕ) → get_or routes c.0 r ≡ r
          → c.0 < length routes → ip_network r.0 ≡ k
      of_route k c r is inside =
          ap (λ z. ip_network z.0) (sym is) ∙ sym (get_or-map (λ z. ip_network z.0) routes c.0 r k inside) ∙ c.2
