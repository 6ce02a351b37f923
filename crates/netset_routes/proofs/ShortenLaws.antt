-- Lines of routes, one after another; and tables of texts that compare as equal just if they have the same bytes.
use Rattle.std.proofs.Common.{◌≡◌, ◌++◌, ◌∷◌, [], ℕ, ◌+◌, List, take, length, get_or, ◌<◌, sym, ap, ◌∙◌, nat_cmp}
use Rattle.std.specs.Borrow.{Bor}
use Rattle.std.specs.Cmp.Lexicographic.{slice_cmp}
use Rattle.std.specs.declared.cmp.Ordering.{Ordering}
use Rattle.std.specs.declared.cmp.Ordering.TheVariants.{Equal}
use Rattle.std.proofs.lemmas.Cmp.{nat_list_cmp_total, tied_itself}
use Rattle.std.proofs.lemmas.List.{flat_map_more, map-append, take_more}
use Rattle.std.proofs.lemmas.Map.Lookups.{exact_bytes}
use Rattle.ipnet.specs.NetworkOf.{ip_network}
use Rattle.ipnet.specs.declared.net.IpNet.{IpNet}
use Rattle.ipnet_base.specs.Address.{Address}
use Rattle.ipnet_routes.specs.Routes.{Route, ip_routes}
use Rattle.ipnet_fewest.specs.Shortest.{HasValue, RouteAlike, IsShortest}
use Rattle.netset_routes.specs.Shortening.{route_line, route_lines, IsSameText}

-- the line of one route more
pub one_line_more : (all : List (IpNet × Bor (List ℕ))) (i : ℕ) (r : IpNet × Bor (List ℕ)) (before after : List ℕ)
    → i < length all → r ≡ get_or all i r → before ≡ route_lines (ip_routes (take i all))
    → after ≡ before ++ route_line (ip_network r.0) r.1.now → after ≡ route_lines (ip_routes (take (i + 1) all))
one_line_more all i r before after within is h line =
    let more : take (i + 1) all ≡ take i all ++ r ∷ [] =
    take_more all i r within ∙ ap (λ z. take i all ++ z ∷ []) (sym is) in
    line
    ∙ ap (λ z. z ++ route_line (ip_network r.0) r.1.now) h
    ∙ flat_map_more (λ q. route_line q.0 q.1.now) [] (ip_routes (take i all)) (ip_network r.0, r.1)
    ∙ ap (λ z. route_lines z)
    (sym (ap (λ z. ip_routes z) more ∙ map-append (λ q. (ip_network q.0, q.1)) (take i all) (r ∷ [])))

module _ {V : Type 0} (S T : V → V → Type 0) (to : (v w : V) → S v w → T v w) where
  -- a value of the one kind is one of the other
  has_other : (routes : List (Route V)) (x : Address) (v : V) → HasValue S routes x v → HasValue T routes x v
  has_other routes x v h = record { route = h.route; matches = h.matches; is = to h.route.1 v h.is }

module _ {V : Type 0} (S T : V → V → Type 0) (to : (v w : V) → S v w → T v w) (from : (v w : V) → T v w → S v w) where
  alike_other : (routes others : List (Route V)) → RouteAlike S routes others → RouteAlike T routes others
  alike_other routes others a = λ x v. (
    (λ h. has_other S T to others x v ((a x v).0 (has_other T S from routes x v h))),
    (λ h. has_other S T to routes x v ((a x v).1 (has_other T S from others x v h))),
  )

-- values that are the same in one sense just if they are in the other have the same shortest tables
shortest_other : {V : Type 0} (S T : V → V → Type 0) (to : (v w : V) → S v w → T v w)
    (from : (v w : V) → T v w → S v w) (given shortest : List (Route V)) → IsShortest S given shortest
    → IsShortest T given shortest
shortest_other S T to from given shortest s = record {
  alike = alike_other S T to from given shortest s.alike;
  fewest = λ others networks alike. s.fewest others networks (alike_other T S from to given others alike);
}

abbrev compare : Bor (List ℕ) → Bor (List ℕ) → Ordering
compare s t = slice_cmp nat_cmp s.now t.now

same_bytes : (s t : Bor (List ℕ)) → compare s t ≡ Equal → IsSameText s t
same_bytes s t e = exact_bytes s.now t.now e

equal_bytes : (s t : Bor (List ℕ)) → IsSameText s t → compare s t ≡ Equal
equal_bytes s t e =
    ap (λ z. slice_cmp nat_cmp s.now z) (sym e)
    ∙ tied_itself nat_list_cmp_total s.now

pub shortened : (given shortest : List (Route (Bor (List ℕ)))) → IsShortest (λ s t. compare s t ≡ Equal) given shortest
    → IsShortest IsSameText given shortest
shortened = shortest_other (λ s t. compare s t ≡ Equal) IsSameText same_bytes equal_bytes
