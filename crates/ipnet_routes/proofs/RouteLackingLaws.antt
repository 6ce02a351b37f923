-- The elements of a list that pass a test, found one after the other.
use Rattle.std.proofs.Common.{◌≡◌, ℕ, ◌+◌, ◌<◌, List, [], ◌∷◌, ◌++◌, length, get_or, map, take, ◌≤◌, subst₂}
use Rattle.std.proofs.Common.{Contains, AllPairs, refl, sym, ap, ◌∙◌, subst, arith, inl, inr}
use Rattle.std.proofs.lemmas.List.{length_push, get_or_push, get_or_append_left, length-map, get_or-map}
use Rattle.std.proofs.lemmas.List.{take_more, take_all, get_or-take, length-take-le}
use Rattle.std.proofs.lemmas.List.Elements.{Contains-push, Contains-push_cases, Contains-append_left}
use Rattle.std.proofs.lemmas.List.Quantifiers.{all_pairs_push}
use Rattle.std.proofs.Common.{Bool, true, false, not, IsTrue, ◌↔◌}
use Rattle.ipnet_base.specs.Network.{Network, IsBefore}
use Rattle.ipnet_base.proofs.ListLaws.{contains_at, contains_nil, pair_at}
use Rattle.ipnet.specs.declared.net.IpNet.{IpNet}
use Rattle.ipnet.specs.NetworkOf.{ip_network}
use Rattle.ipnet_routes.specs.Routes.{Route, networks_of, ip_routes, ip_networks, AreLacking}
use Rattle.ipnet_routes.specs.RouteSteps.{IsTable}
use Rattle.ipnet_routes.proofs.RouteLaws.{one_value, same_networks, network_of_route, ascending_of}
use Rattle.ipnet_routes.proofs.LastPassing.{element_at}

-- the elements of the list that pass the test, in its order
pub record AreThose {X : Type 0} (R : X → X → Type 0) (Fits : X → Type 0) (xs found : List X) : Type 0 where
  pub ordered : AllPairs R found
  pub members : (x : X) → Contains found x ↔ (Contains xs x × Fits x)

pub none_of_none : {X : Type 0} (R : X → X → Type 0) (Fits : X → Type 0) (xs : List X) → xs ≡ []
    → AreThose R Fits xs []
none_of_none R Fits xs e = record {
  ordered = λ i j d l m. absurd (omega (arith, m));
  members = λ x. (λ c. absurd (contains_nil x c), λ h. absurd (contains_nil x (subst (λ z. Contains z x) e h.0)));
}

pub one_more : {X : Type 0} (R : X → X → Type 0) (Fits : X → Type 0) (xs found : List X) (x : X)
    → AllPairs R (xs ++ x ∷ []) → Fits x → AreThose R Fits xs found
    → AreThose R Fits (xs ++ x ∷ []) (found ++ x ∷ [])
one_more {X} R Fits xs found x pairs fits h = record {
  ordered = all_pairs_push R found x h.ordered (λ k d l.
      let y = get_or found k d in
      let at : Contains xs y = ((h.members y).0 (contains_at found k d l)).0 in
      pair_at R (xs ++ x ∷ []) pairs y x
      (at.0, omega (arith, at.1, length_push xs x), get_or_append_left xs (x ∷ []) y at.0 at.1 ∙ at.2)
      (length xs, omega (arith, length_push xs x), get_or_push xs x x (length xs) refl) at.1);
  members = λ y. (
    λ c. elim (Contains-push_cases found x y c) [
      | inl before ↦
          let there = (h.members y).0 before in
          (Contains-append_left xs (x ∷ []) y there.0, there.1)
      | inr same ↦ subst (λ z. Contains (xs ++ x ∷ []) z × Fits z) same (Contains-push xs x, fits)
    ],
    λ c. elim (Contains-push_cases xs x y c.0) [
      | inl before ↦ Contains-append_left found (x ∷ []) y ((h.members y).1 (before, c.1))
      | inr same ↦ subst (Contains (found ++ x ∷ [])) same (Contains-push found x)
    ],
  );
}

pub one_less : {X : Type 0} (R : X → X → Type 0) (Fits : X → Type 0) (xs found : List X) (x : X)
    → (Fits x → ⊥) → AreThose R Fits xs found → AreThose R Fits (xs ++ x ∷ []) found
one_less {X} R Fits xs found x out h = record {
  ordered = h.ordered;
  members = λ y. (
    λ c. let there = (h.members y).0 c in (Contains-append_left xs (x ∷ []) y there.0, there.1),
    λ c. elim (Contains-push_cases xs x y c.0) [
      | inl before ↦ (h.members y).1 (before, c.1)
      | inr same ↦ absurd (out (subst Fits (sym same) c.1))
    ],
  );
}

-- a table has one value for a network, so the test of that value is the test of all
pub lacks_by_value : {V : Type 0} (list : List (IpNet × V)) → IsTable (ip_networks list) → (n : Network) (v x : V)
    (same : V → V → Bool) (answer : Bool) → Contains (ip_routes list) (n, v) → answer ≡ not (same v x)
    → IsTrue answer ↔ ((w : V) → Contains (ip_routes list) (n, w) → same w x ≡ false)
lacks_by_value {V} list table n v x same answer has is = (
  λ yes w other.
      let one : v ≡ w = ap (λ r. r.1) (one_value list table (n, v) (n, w) has other refl) in
      subst (λ z. same z x ≡ false) one (not_true (same v x) (sym is ∙ yes)),
  λ h. is ∙ ap not (h v has),
)
  where
    not_true : (b : Bool) → not b ≡ true → b ≡ false
    not_true true e = absurd (cc)
    not_true false e = refl

pub lacks_without : {V : Type 0} (list : List (IpNet × V)) (n : Network) (x : V) (same : V → V → Bool)
    → (Contains (networks_of (ip_routes list)) n → ⊥)
    → (w : V) → Contains (ip_routes list) (n, w) → same w x ≡ false
lacks_without list n x same out w has =
    absurd (out (subst (λ z. Contains z n) (sym (same_networks list)) (network_of_route list (n, w) has)))

-- pairs of the values of a function, and pairs at the front of a list
pairs_of_map : {X Y : Type 0} (S : Y → Y → Type 0) (f : X → Y) (xs : List X)
    → AllPairs (λ x y. S (f x) (f y)) xs → AllPairs S (map f xs)
pairs_of_map S f xs pairs i j d lt m =
    let later : j < length xs = omega (arith, m, length-map xs f) in
    let x = element_at xs i (omega (arith, lt, later)) in
    let y = element_at xs j later in
    subst₂ S (sym (get_or-map f xs i x.0 d (omega (arith, lt, later)) ∙ ap f (x.1 x.0)))
    (sym (get_or-map f xs j y.0 d later ∙ ap f (y.1 y.0)))
    (subst₂ (λ a b. S (f a) (f b)) (x.1 x.0) (y.1 x.0) (pairs i j x.0 lt later))

pairs_under_map : {X Y : Type 0} (S : Y → Y → Type 0) (f : X → Y) (xs : List X)
    → AllPairs S (map f xs) → AllPairs (λ x y. S (f x) (f y)) xs
pairs_under_map S f xs pairs i j d lt m =
    subst₂ S (get_or-map f xs i d (f d) (omega (arith, lt, m))) (get_or-map f xs j d (f d) m)
    (pairs i j (f d) lt (omega (arith, m, length-map xs f)))

pairs_in_front : {X : Type 0} (R : X → X → Type 0) (xs : List X) (n : ℕ) → n ≤ length xs → AllPairs R xs
    → AllPairs R (take n xs)
pairs_in_front R xs n le pairs i j d lt m =
    let small : j < n = omega (arith, m, length-take-le n xs le) in
    subst₂ R (sym (get_or-take n xs i d (omega (arith, lt, small)))) (sym (get_or-take n xs j d small))
    (pairs i j d lt (omega (arith, small, le)))

abbrev as_route : {V : Type 0} → IpNet × V → Route V
as_route z = (ip_network z.0, z.1)

as_many : {V : Type 0} (list : List (IpNet × V)) → length (ip_routes list) ≡ length list
as_many {V} list = length-map list (as_route {V = V})

-- one route more of the front of a table
pub front_more : {V : Type 0} (list : List (IpNet × V)) (i : ℕ) (x : IpNet × V) → i < length list
    → x ≡ get_or list i x
    → take (i + 1) (ip_routes list) ≡ take i (ip_routes list) ++ (ip_network x.0, x.1) ∷ []
front_more list i x l e =
    take_more (ip_routes list) i (ip_network x.0, x.1)
    (omega (arith, l, as_many list))
    ∙ ap (λ z. take i (ip_routes list) ++ z ∷ [])
    (get_or-map as_route list i x (ip_network x.0, x.1) l
    ∙ ap as_route (sym e))

-- the routes of a table ascend by their networks
abbrev pub Ascends : {V : Type 0} → Route V → Route V → Type 0
Ascends r s = IsBefore r.0 s.0

routes_ascend : {V : Type 0} (list : List (IpNet × V)) → IsTable (ip_networks list)
    → AllPairs Ascends (ip_routes list)
routes_ascend list table =
    pairs_under_map IsBefore (λ r. r.0) (ip_routes list)
    (subst (AllPairs IsBefore) (sym (same_networks list)) (ascending_of (ip_networks list) table))

module _ {V : Type 0} (list : List (IpNet × V)) (table : IsTable (ip_networks list)) (Fits : Route V → Type 0)
    (i : ℕ) (x : IpNet × V) (l : i < length list) (e : x ≡ get_or list i x) (found : List (Route V)) where
  pub found_one : Fits (ip_network x.0, x.1) → AreThose Ascends Fits (take i (ip_routes list)) found
      → AreThose Ascends Fits (take (i + 1) (ip_routes list)) (found ++ (ip_network x.0, x.1) ∷ [])
  found_one fits h =
      subst (λ z. AreThose Ascends Fits z (found ++ (ip_network x.0, x.1) ∷ [])) (sym (front_more list i x l e))
      (one_more Ascends Fits (take i (ip_routes list)) found (ip_network x.0, x.1)
      (subst (AllPairs Ascends) (front_more list i x l e)
      (pairs_in_front Ascends (ip_routes list) (i + 1)
      (omega (arith, l, as_many list)) (routes_ascend list table)))
      fits h)

  pub found_none : (Fits (ip_network x.0, x.1) → ⊥) → AreThose Ascends Fits (take i (ip_routes list)) found
      → AreThose Ascends Fits (take (i + 1) (ip_routes list)) found
  found_none out h =
      subst (λ z. AreThose Ascends Fits z found) (sym (front_more list i x l e))
      (one_less Ascends Fits (take i (ip_routes list)) found (ip_network x.0, x.1) out h)

pub found_all : {V : Type 0} (same : V → V → Bool) (list : List (IpNet × V)) (other found : List (Route V)) (i : ℕ)
    → length list ≤ i
    → AreThose Ascends (λ r. (w : V) → Contains other (r.0, w) → same w r.1 ≡ false) (take i (ip_routes list)) found
    → AreLacking same (ip_routes list) other found
found_all {V} same list other found i le h = record {
  ascending = pairs_of_map IsBefore (λ r. r.0) found h.ordered;
  members = subst (λ z. (r : Route V) → Contains found r
      ↔ (Contains z r × ((w : V) → Contains other (r.0, w) → same w r.1 ≡ false)))
      (take_all i (ip_routes list) (omega (arith, le, as_many list))) h.members;
}
