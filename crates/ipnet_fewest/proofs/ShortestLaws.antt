-- The shortest table, from the fewest routes for numbers.
use Rattle.std.proofs.Common.{◌≡◌, ℕ, ◌+◌, ◌<◌, ◌≤◌, List, [], ◌∷◌, length, Contains, All}
use Rattle.std.proofs.Common.{Ordering, refl, sym, ap, ◌∙◌, subst, arith}
use Rattle.std.proofs.lemmas.List.{length-map, get_or-map}
use Rattle.std.specs.Cmp.{IsTotalOrder}
use Rattle.std.specs.List.Sorted.{IsSorted}
use Rattle.ipnet_base.specs.Network.{IsNetwork, IsTruncated}
use Rattle.ipnet_base.specs.Blocks.{IsAscending}
use Rattle.ipnet_base.proofs.ListLaws.{all_at, contains_nil}
use Rattle.ipnet.specs.declared.net.IpNet.{IpNet}
use Rattle.ipnet_routes.specs.Routes.{Route, networks_of, ip_routes, ip_networks, IsTableOf}
use Rattle.ipnet_routes.specs.RouteSteps.{IsTable}
use Rattle.ipnet_routes.proofs.LastPassing.{element_at}
use Rattle.ipnet_routes.proofs.RouteLaws.{one_match, same_networks, table_of}
use Rattle.ipnet_fewest.specs.Shortest.{AreEqualBy, IsShortest}
use Rattle.ipnet_fewest.specs.Numbers.{IsRank, HasValuesOf, AreNumbered, AreValued}
use Rattle.ipnet_fewest.specs.Solved.{HaveValues}
use Rattle.ipnet_fewest.specs.FewestRoutes.{AreFewest}
use Rattle.ipnet_fewest.proofs.ValuedLaws.{by_places, of_values, list_alike, made_at_least}
use Rattle.ipnet_fewest.proofs.ShortLaws.{no_more, table_alike}

-- ---- the table that is given

pub given_table : {V : Type 0} (routes : List (IpNet × V)) (given : List (Route V)) → ip_routes routes ≡ given
    → IsAscending (networks_of given) → All IsTruncated (networks_of given) → IsTable (ip_networks routes)
given_table routes given e ascending truncated =
    let same : networks_of given ≡ ip_networks routes = ap networks_of (sym e) ∙ same_networks routes in
    subst IsTable same (table_of (networks_of given) truncated ascending)

-- ---- its routes with numbers

module _ {V : Type 0} (cmp : V → V → Ordering) (values : List V) (routes : List (IpNet × V))
    (numbers : List (IpNet × ℕ)) (num : AreNumbered cmp values (ip_routes routes) (ip_routes numbers)) where
  pub numbers_table : IsTable (ip_networks routes) → IsTable (ip_networks numbers)
  numbers_table table = subst IsTable
      (sym (same_networks routes) ∙ sym num.networks ∙ same_networks numbers) table

  pub numbers_values : HaveValues (ip_routes numbers)
  numbers_values q c =
      let h = by_places (λ v n. (k : ℕ) × (k + 1 ≡ n) × IsRank cmp values v k) (ip_routes routes) (ip_routes numbers)
      num.networks num.ranks in
      let (r, d, e, (k, is, rank)) = h.back q c in
      omega (arith, is)

pub some_values : {V : Type 0} (cmp : V → V → Ordering) (routes : List (IpNet × V)) (values : List V)
    → 0 < length routes → HasValuesOf cmp (ip_routes routes) values → 0 < length values
some_values {V} cmp routes values some has =
    let size : length (ip_routes routes) ≡ length routes = length-map routes _ in
    let first : 0 < length (ip_routes routes) = omega (arith, some, size) in
    let (r, at) = element_at (ip_routes routes) 0 first in
    let h = has r (0, first, at r) in
    omega (arith, h.member.1)

-- ---- the shortest

network_in : {V : Type 0} (routes : List (Route V)) (r : Route V) → Contains routes r
    → Contains (networks_of routes) r.0
network_in {V} routes r c = (
  c.0,
  omega (arith, c.1, length-map routes (λ (z : Route V). z.0)),
  get_or-map (λ (z : Route V). z.0) routes c.0 r r.0 c.1 ∙ ap (λ (z : Route V). z.0) c.2,
)

module _ {V : Type 0} (cmp : V → V → Ordering) (o : IsTotalOrder cmp) (routes : List (IpNet × V))
    (table : IsTable (ip_networks routes)) (values : List V) (sorted : IsSorted cmp values)
    (has : HasValuesOf cmp (ip_routes routes) values) (numbers made : List (IpNet × ℕ))
    (num : AreNumbered cmp values (ip_routes routes) (ip_routes numbers))
    (f : AreFewest (ip_routes numbers) (ip_routes made)) (list : List (IpNet × V))
    (val : AreValued values (ip_routes made) (ip_routes list)) (shortest : List (Route V))
    (t : IsTableOf (ip_routes list) shortest) where
  truncated : (r : Route V) → Contains (ip_routes list) r → IsTruncated r.0
  truncated r c =
      let h = of_values cmp o (ip_routes routes) values sorted has (ip_routes numbers) (ip_routes made) num f
      (ip_routes list) val in
      let (m, d, e, is) = h.back r c in
      subst IsTruncated e (f.truncated m d)

  size : length (ip_routes list) ≡ length (ip_routes made)
  size = omega (
    arith,
    ap length val.networks,
    length-map (ip_routes list) (λ (z : Route V). z.0),
    length-map (ip_routes made) (λ (z : Route ℕ). z.0),
  )

  pub are_shortest : IsShortest (AreEqualBy cmp) (ip_routes routes) shortest
  are_shortest = record {
    alike = table_alike (ip_routes list) shortest t truncated cmp o (ip_routes routes)
        (list_alike cmp o (ip_routes routes) values sorted has (ip_routes numbers) (ip_routes made) num f
        (ip_routes list) val) (one_match routes table);
    fewest = λ others valid alike. omega (
      arith,
      no_more (ip_routes list) shortest t truncated,
      size,
      made_at_least cmp o (ip_routes routes) values sorted has (ip_routes numbers) (ip_routes made) num f
          (ip_routes list) val others
          (λ r c. all_at IsNetwork (networks_of others) valid r.0 (network_in others r c)) alike,
    );
  }

-- ---- a table without routes

pub shortest_of_none : {V : Type 0} (IsSame : V → V → Type 0) (given list shortest : List (Route V)) → length given ≡ 0
    → list ≡ [] → IsTableOf list shortest → IsShortest IsSame given shortest
shortest_of_none {V} IsSame given list shortest none e t =
    subst (λ z. IsShortest IsSame z shortest) (sym (empty given none))
    (subst (IsShortest IsSame []) (sym (empty shortest no_routes)) (record {
      alike = λ x v. (λ h. h, λ h. h);
      fewest = λ others valid alike. omega arith;
    }))
  where
    empty : (xs : List (Route V)) → length xs ≡ 0 → xs ≡ []
    empty [] h = refl
    empty (x ∷ xs) h = absurd (omega (arith, h))

    no_routes : length shortest ≡ 0
    no_routes =
        let few : length shortest ≤ length list = no_more list shortest t
        (λ r c. absurd (contains_nil r (subst (λ z. Contains z r) e c))) in
        omega (arith, few, ap length e)
