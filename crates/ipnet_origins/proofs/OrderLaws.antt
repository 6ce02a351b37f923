-- Payloads in the order of their networks: the payloads of one network are neighbours.
use Rattle.std.proofs.Common.{◌≡◌, ℕ, zero, suc, ◌+◌, ◌-◌, ◌<◌, ◌≤◌, Bool, true, false, List, length, map, get_or, take}
use Rattle.std.proofs.Common.{drop, Option, refl, sym, ap, ◌∙◌, subst, subst₂, arith, inl, inr}
use Rattle.std.specs.Cmp.{nat_cmp_is}
use Rattle.std.specs.List.Sorted.{IsNonDecreasingBy, IsPartitionedBy, IsPartitionPoint}
use Rattle.std.proofs.Common.{Ordering, Less, Equal, Greater}
use Rattle.std.specs.Ordering.{MatchOrdering, is_lt, nat_cmp, ordering_then}
use Rattle.std.proofs.lemmas.Bool.{cases_eq, cases_lt}
use Rattle.std.proofs.lemmas.List.{length-map, get_or-map, get_or-take, get_or-drop, length-take-le, length-drop}
use Rattle.ipnet_base.specs.Network.{Network, IsBefore}
use Rattle.ipnet_base.specs.Stack.{IsBeforeOrEqual, IsInOrder}
use Rattle.ipnet_base.specs.Values.{ComparesBy}
use Rattle.ipnet_base.proofs.OrderLaws.{order_total, IsBefore-transitive}
use Rattle.ipnet.specs.declared.net.IpNet.{IpNet}
use Rattle.ipnet.specs.NetworkOf.{ip_network}
use Rattle.ipnet_routes.proofs.RouteLaws.{before_is_less, not_back}
use Rattle.ipnet_origins.specs.declared.payload.Payload.{Payload}
use Rattle.ipnet_origins.specs.Groups.{network_of, rank_of, AreInOrder, AreRanked, AreOfOne, IsLastOf, IsStartOf}
use Rattle.ipnet_origins.specs.Groups.{IsGroup}
use Rattle.ipnet_origins.proofs.LastLaws.{payload_at}
use Rattle.ipnet_origins.proofs.ThoseLaws.{those_slice, those_members}

-- sorted payloads are in order
pub in_order_from : (vrps : List Payload) → IsInOrder (map network_of vrps) → AreInOrder vrps
in_order_from vrps h i j d le l before =
    let size = length-map vrps network_of in
    not_back (network_of (get_or vrps j d)) (network_of (get_or vrps i d)) before
    (subst₂ IsBeforeOrEqual (get_or-map network_of vrps i d (network_of d) (omega (arith, le, l)))
    (get_or-map network_of vrps j d (network_of d) l) (h i j (network_of d) le (omega (arith, l, size))))

module _ (eq : IpNet → IpNet → Bool) (cmp : IpNet → IpNet → Ordering) (partial_cmp : IpNet → IpNet → Option Ordering)
    (compare : (a b : IpNet) → ComparesBy ip_network IsBefore eq cmp partial_cmp a b) where
  -- one network is less than another if it is before it, and only then
  less_before : (a b : IpNet) → is_lt (cmp a b) ≡ true → IsBefore (ip_network a) (ip_network b)
  less_before a b = go (cmp a b) (compare a b).order
    where
      go : (o : Ordering) → MatchOrdering o (IsBefore (ip_network a) (ip_network b)) (ip_network a ≡ ip_network b)
          (IsBefore (ip_network b) (ip_network a)) → is_lt o ≡ true → IsBefore (ip_network a) (ip_network b)
      go Less p e = p
      go Equal p e = absurd (cc)
      go Greater p e = absurd (cc)

  before_less : (a b : IpNet) → IsBefore (ip_network a) (ip_network b) → cmp a b ≡ Less
  before_less a b before = before_is_less a b (compare a b) before

  equal_is : (a b : IpNet) → ip_network a ≡ ip_network b → cmp a b ≡ Equal
  equal_is a b same = go (cmp a b) (compare a b).order
    where
      go : (o : Ordering) → MatchOrdering o (IsBefore (ip_network a) (ip_network b)) (ip_network a ≡ ip_network b)
          (IsBefore (ip_network b) (ip_network a)) → o ≡ Equal
      go Less p = absurd (not_back (ip_network a) (ip_network b) p (inl (sym same)))
      go Equal p = refl
      go Greater p = absurd (not_back (ip_network b) (ip_network a) p (inl same))

  -- the payload's network is less than the network
  abbrev pub is_less : IpNet → Payload → Bool
  is_less n vrp = is_lt (cmp vrp.network n)

  -- payloads before a network come first
  pub are_parted : (vrps : List Payload) → AreInOrder vrps → (n : IpNet)
      → IsPartitionedBy (λ vrp. is_lt (cmp vrp.network n)) vrps
  are_parted vrps order n i j d le l less =
      let first = get_or vrps i d in
      let later = get_or vrps j d in
      let before : IsBefore (network_of later) (ip_network n) = less_before later.network n less in
      ap is_lt
      (before_less first.network n
      (elim (order_total (network_of first) (network_of later)) [
        | inl (inl same) ↦ subst (λ k. IsBefore k (ip_network n)) (sym same) before
        | inl (inr earlier) ↦ IsBefore-transitive (network_of first) (network_of later) (ip_network n) earlier before
        | inr back ↦ absurd (order i j d le l back)
      ]))

  -- the first payload that is not before the network is its first payload
  pub start_from : (vrps : List Payload) → AreInOrder vrps → (n : IpNet) (last start : ℕ)
      → IsLastOf vrps (ip_network n) last
      → IsPartitionPoint (λ vrp. is_lt (cmp vrp.network n) ≡ true) (λ vrp. is_lt (cmp vrp.network n) ≡ false) vrps start
      → IsStartOf vrps (ip_network n) start last
  start_from vrps order n last start is point = record {
    within = elim (cases_lt last start) [
      | inr from ↦ from
      | inl past ↦
          let d = (payload_at vrps last is.within).0 in
          absurd (not_back (network_of (get_or vrps last d)) (ip_network n)
          (less_before (get_or vrps last d).network n (point.0 last d (omega arith) past)) (inl (sym (is.is d))))
    ];
    group = λ i d l m. elim (order_total (network_of (get_or vrps i d)) (ip_network n)) [
      | inl (inl same) ↦ same
      | inl (inr before) ↦
          let less : is_lt (cmp (get_or vrps i d).network n) ≡ true
          = ap is_lt (before_less (get_or vrps i d).network n before) in
          let not : is_lt (cmp (get_or vrps i d).network n) ≡ false = point.1 i d l (omega (arith, m, is.within)) in
          absurd (cc)
      | inr behind ↦ absurd (order i last d m is.within
          (subst (λ k. IsBefore k (network_of (get_or vrps i d))) (sym (is.is d)) behind))
    ];
    before = λ i d l same.
        let earlier = less_before (get_or vrps i d).network n (point.0 i d (omega arith) l) in
        not_back (network_of (get_or vrps i d)) (ip_network n) earlier (inl (sym same));
  }

  -- payloads that are sorted by network and rank
  pub sorted_law : (x y : IpNet × ℕ) → IsBefore (ip_network x.0) (ip_network y.0)
      → ordering_then (cmp x.0 y.0) (nat_cmp x.1 y.1) ≡ Less
  sorted_law x y before = ap (λ o. ordering_then o (nat_cmp x.1 y.1)) (before_less x.0 y.0 before)

  pub ranks_rise : (x y : IpNet × ℕ) → ip_network x.0 ≡ ip_network y.0
      → is_lt (ordering_then (cmp x.0 y.0) (nat_cmp x.1 y.1)) ≡ false → y.1 ≤ x.1
  ranks_rise x y same not_less = elim (cases_lt x.1 y.1) [
    | inr up ↦ up
    | inl lower ↦
        let less : is_lt (ordering_then (cmp x.0 y.0) (nat_cmp x.1 y.1)) ≡ true
        = ap (λ o. is_lt (ordering_then o (nat_cmp x.1 y.1))) (equal_is x.0 y.0 same)
        ∙ ap is_lt (sym (nat_cmp_is x.1 y.1 Less lower)) in
        absurd (cc)
  ]

-- if the payload before the last one of a network has another network, the last one is the first one
pub one_start : (vrps : List Payload) → AreInOrder vrps → (n : Network) (last : ℕ) → IsLastOf vrps n last
    → ((i : ℕ) (d : Payload) → i < last → network_of (get_or vrps (last - 1) d) ≡ n → ⊥) → IsStartOf vrps n last last
one_start vrps order n last is other = record {
  within = omega arith;
  group = λ i d from to. ap (λ k. network_of (get_or vrps k d)) (omega (arith, from, to)) ∙ is.is d;
  before = λ i d l same.
      let mid = network_of (get_or vrps (last - 1) d) in
      other i d l (elim (order_total mid n) [
        | inl (inl equal) ↦ equal
        | inl (inr before) ↦ absurd (order i (last - 1) d (omega (arith, l)) (omega (arith, l, is.within))
            (subst (IsBefore mid) (sym same) before))
        | inr behind ↦ absurd (order (last - 1) last d (omega arith) is.within
            (subst (λ k. IsBefore k mid) (sym (is.is d)) behind))
      ]);
}

-- neighbours of one network rise in rank, so all payloads of one network do
pub ranked_from : (vrps : List Payload) → AreInOrder vrps
    → ((k : ℕ) (d : Payload) → k + 1 < length vrps
    → network_of (get_or vrps k d) ≡ network_of (get_or vrps (k + 1) d)
    → rank_of (get_or vrps k d) ≤ rank_of (get_or vrps (k + 1) d)) → AreRanked vrps
ranked_from vrps order rise i zero d le l same = omega (arith, ap (λ k. rank_of (get_or vrps k d)) (only i le))
  where
    only : (k : ℕ) → k ≤ 0 → k ≡ 0
    only k h = omega (arith, h)
ranked_from vrps order rise i (suc j) d le l same = elim (cases_eq i (suc j)) [
  | inl e ↦ omega (arith, ap (λ k. rank_of (get_or vrps k d)) e)
  | inr other ↦
      let low : i ≤ j = omega (arith, le, other) in
      let inside : j < length vrps = omega (arith, l) in
      let next : j + 1 ≡ suc j = omega arith in
      let first = network_of (get_or vrps i d) in
      let mid = network_of (get_or vrps j d) in
      let equal : first ≡ mid = elim (order_total first mid) [
        | inl (inl e) ↦ e
        | inl (inr before) ↦ absurd (order j (suc j) d (omega arith) l (subst (λ k. IsBefore k mid) same before))
        | inr back ↦ absurd (order i j d low inside back)
      ] in
      omega (
        arith,
        ranked_from vrps order rise i j d low inside equal,
        rise j d (omega (arith, l)) (sym equal ∙ same ∙ ap (λ k. network_of (get_or vrps k d)) (sym next)),
        ap (λ k. rank_of (get_or vrps k d)) next,
      )
]

-- the payloads from the start to the last one are the group
pub group_of : (vrps : List Payload) (n : Network) (start last : ℕ) → IsLastOf vrps n last → IsStartOf vrps n start last
    → IsGroup vrps n (take (last + 1 - start) (drop start vrps))
group_of vrps n start last is h =
    those_slice (λ vrp. network_of vrp ≡ n) vrps start (last + 1 - start) (λ i d l m. h.before i d l)
    (λ i d l m k. h.group i d l (omega (arith, l, m, h.within)))
    (λ i d l m. is.last i d (omega (arith, l, h.within)) m)

-- the payloads of a group have one network
pub group_one : (vrps group : List Payload) (n : Network) → IsGroup vrps n group → AreOfOne group
group_one vrps group n is vrp other c e =
    let members = those_members (λ v. network_of v ≡ n) vrps group is in
    ((members vrp).0 c).1 ∙ sym ((members other).0 e).1

-- and they are ranked
pub group_ranked : (vrps : List Payload) (n : Network) (start last : ℕ) → AreRanked vrps → IsLastOf vrps n last
    → IsStartOf vrps n start last → IsNonDecreasingBy rank_of (take (last + 1 - start) (drop start vrps))
group_ranked vrps n start last ranked is h i j d le l =
    let inside : start + j ≤ last = omega (arith, l, size, h.within) in
    subst₂ ◌≤◌ (ap rank_of (sym (at i (omega (arith, le, l, size))))) (ap rank_of (sym (at j (omega (arith, l, size)))))
    (ranked (start + i) (start + j) d (omega (arith, le)) (omega (arith, inside, is.within))
    (h.group (start + i) d (omega arith) (omega (arith, le, inside))
    ∙ sym (h.group (start + j) d (omega arith) inside)))
  where
    size : length (take (last + 1 - start) (drop start vrps)) ≡ last + 1 - start
    size = length-take-le (last + 1 - start) (drop start vrps)
        (omega (arith, length-drop start vrps, is.within, h.within))

    at : (k : ℕ) → k < last + 1 - start
        → get_or (take (last + 1 - start) (drop start vrps)) k d ≡ get_or vrps (start + k) d
    at k low = get_or-take (last + 1 - start) (drop start vrps) k d low ∙ get_or-drop start vrps k d
