-- The holders of a network in a table: the longest first, and then the holders of its supernet.
use Rattle.std.proofs.Common.{◌≡◌, ◌/◌, ◌^◌, ◌<◌, ◌≤◌, ◌↔◌, Bool, true, false, ◌&&◌, List, [], ◌∷◌}
use Rattle.std.proofs.Common.{Option, Some, None, IsNone, IfSome, if◌then◌else◌}
use Rattle.std.proofs.Common.{Contains, AllPairs, refl, sym, ap, ap₂, ◌∙◌, subst, arith, inl, inr}
use Rattle.std.proofs.lemmas.Bool.{cases_lt, eqb-true, eq-eqb, leb-true, le-leb}
use Rattle.std.proofs.lemmas.List.Elements.{Contains-append_left, Contains-append_right, Contains-append_cases}
use Rattle.ipnet_base.specs.Address.{Address, width, family_index}
use Rattle.ipnet_base.specs.Network.{Network, IsNetwork, host_bits, InBlock, IsSubnetOf, IsTruncated, IsBefore}
use Rattle.ipnet_base.specs.Network.{IsSupernetOf}
use Rattle.ipnet_base.proofs.FamilyLaws.{same_family_from_index}
use Rattle.ipnet_base.proofs.BlockLaws.{own, own_in}
use Rattle.ipnet_base.proofs.NestingLaws.{nested, longer_from_subnet, subnet_from_own}
use Rattle.ipnet_base.proofs.OrderLaws.{IsBefore-asymmetric, order_total}
use Rattle.ipnet_base.proofs.ListLaws.{contains_nil, contains_here, contains_there, contains_cases, pairs_append}
use Rattle.ipnet_base.proofs.ListLaws.{pairs_cons, pairs_head, pairs_tail, pairs_from_members, same_from_members}
use Rattle.ipnet_base.proofs.ListLaws.{all_at}
use Rattle.ipnet.specs.declared.net.IpNet.{IpNet}
use Rattle.ipnet.specs.NetworkOf.{ip_network}
use Rattle.ipnet_routes.specs.Routes.{Route, networks_of, ip_routes, ip_networks, IsLongestHolder, AreMatches}
use Rattle.ipnet_routes.specs.RouteSteps.{IsTable}
use Rattle.ipnet_routes.specs.RouteMapSteps.{holds_block, holders, holders_of}
use Rattle.ipnet_routes.proofs.RouteLaws.{all_valid, network_of_route, same_networks, one_value, host}
use Rattle.ipnet_routes.proofs.RouteLaws.{host_in, in_from_host}
use Rattle.ipnet_routes.proofs.CoveringLaws.{not_after}
use Rattle.ipnet_routes.proofs.RouteMapChanges.{ordered_routes}

and_both : (a b : Bool) → (a && b) ≡ true → (a ≡ true) × (b ≡ true)
and_both true b e = (refl, e)
and_both false b e = let wrong : false ≡ true = e in absurd (cc)

-- the test of the numbers
block_held : (k n : Network) → holds_block k n ≡ true → IsSubnetOf n k
block_held k n e =
    let first = and_both _ _ e in
    let others = and_both _ _ first.1 in
    subnet_from_own n k (leb-true k.prefix_len n.prefix_len others.0) (record {
      same_family = same_family_from_index n.family k.family
          (eqb-true (family_index n.family) (family_index k.family) first.0);
      same_prefix = eqb-true (n.number / 2 ^ host_bits k) (k.number / 2 ^ host_bits k) others.1;
    })

held_block : (k n : Network) → IsNetwork k → IsNetwork n → IsSubnetOf n k → holds_block k n ≡ true
held_block k n valid_k valid_n sub =
    let at : InBlock k (own n) = sub (own n) (own_in n) in
    ap₂ ◌&&◌ (eq-eqb (family_index n.family) (family_index k.family) (ap family_index at.same_family))
    (ap₂ ◌&&◌ (le-leb k.prefix_len n.prefix_len (longer_from_subnet n k valid_n valid_k sub))
    (eq-eqb (n.number / 2 ^ host_bits k) (k.number / 2 ^ host_bits k) at.same_prefix))

-- a list of one route or of none
kept_gives : {V : Type 0} (b : Bool) (r q : Route V) → Contains (if b then r ∷ [] else []) q → (b ≡ true) × (r ≡ q)
kept_gives true r q c =
    (refl, elim (contains_cases r [] q c) [ inl same ↦ same | inr none ↦ absurd (contains_nil q none) ])
kept_gives false r q c = absurd (contains_nil q c)

kept_has : {V : Type 0} (b : Bool) (r : Route V) → b ≡ true → Contains (if b then r ∷ [] else []) r
kept_has true r e = contains_here r []
kept_has false r e = absurd (cc)

kept_pairs : {V : Type 0} (R : Route V → Route V → Type 0) (b : Bool) (r : Route V)
    → AllPairs R (if b then r ∷ [] else [])
kept_pairs R true r i j d l m = absurd (omega (arith, l, m))
kept_pairs R false r i j d l m = absurd (omega (arith, m))

members : {V : Type 0} (rs : List (Route V)) (n : Network) (q : Route V)
    → Contains (holders rs n) q ↔ (Contains rs q × (holds_block q.0 n ≡ true))
members [] n q = (λ c. absurd (contains_nil q c), λ h. absurd (contains_nil q h.0))
members (r ∷ rs) n q = (
  λ c. elim (Contains-append_cases (holders rs n) (if holds_block r.0 n then r ∷ [] else []) q c) [
    | inl a ↦ let there = (members rs n q).0 a in (contains_there r rs q there.0, there.1)
    | inr b ↦
        let kept = kept_gives (holds_block r.0 n) r q b in
        subst (λ z. Contains (r ∷ rs) z × (holds_block z.0 n ≡ true)) kept.1 (contains_here r rs, kept.0)
  ],
  λ h. elim (contains_cases r rs q h.0) [
    | inl same ↦ subst (Contains (holders (r ∷ rs) n)) same
        (Contains-append_right (holders rs n) (if holds_block r.0 n then r ∷ [] else []) r
        (kept_has (holds_block r.0 n) r (subst (λ z. holds_block z.0 n ≡ true) (sym same) h.1)))
    | inr later ↦ Contains-append_left (holders rs n) (if holds_block r.0 n then r ∷ [] else []) q
        ((members rs n q).1 (later, h.1))
  ],
)

abbrev Earlier : {V : Type 0} → Route V → Route V → Type 0
Earlier r s = IsBefore s.0 r.0

holders_descend : {V : Type 0} (rs : List (Route V)) (n : Network) → AllPairs (λ r s. IsBefore r.0 s.0) rs
    → AllPairs Earlier (holders rs n)
holders_descend [] n h = λ i j d l m. absurd (omega (arith, m))
holders_descend (r ∷ rs) n h =
    pairs_append Earlier (holders rs n) (if holds_block r.0 n then r ∷ [] else [])
    (holders_descend rs n (pairs_tail (λ a b. IsBefore a.0 b.0) r rs h)) (kept_pairs Earlier (holds_block r.0 n) r)
    (λ x y a b. subst (λ z. IsBefore z.0 x.0) (kept_gives (holds_block r.0 n) r y b).1
    (pairs_head (λ a b. IsBefore a.0 b.0) r rs h x ((members rs n x).0 a).0))

nil_from_none : {X : Type 0} (xs : List X) → ((x : X) → Contains xs x → ⊥) → xs ≡ []
nil_from_none [] h = refl
nil_from_none (x ∷ xs) h = absurd (h x (contains_here x xs))

module _ {V : Type 0} (list : List (IpNet × V)) (t : IsTable (ip_networks list)) (n : Network) (valid_n : IsNetwork n)
  where
    abbrev routes : List (Route V)
    routes = ip_routes list

    valid : (r : Route V) → Contains routes r → IsNetwork r.0
    valid r c = all_at IsNetwork (ip_networks list) (all_valid list) r.0 (network_of_route list r c)

    cut : (r : Route V) → Contains routes r → IsTruncated r.0
    cut r c = all_at IsTruncated (ip_networks list) t.truncated r.0 (network_of_route list r c)

    -- of two routes that hold a network, the block of the longer one lies in the block of the other
    inside : (r s : Route V) → IsSubnetOf n r.0 → IsSubnetOf n s.0 → s.0.prefix_len ≤ r.0.prefix_len
        → IsSubnetOf r.0 s.0
    inside r s sub_r sub_s le =
        let at_r : InBlock r.0 (own n) = sub_r (own n) (own_in n) in
        let at_s : InBlock s.0 (own n) = sub_s (own n) (own_in n) in
        nested r.0 s.0 (own n) at_r at_s (omega (arith, le, ap width (sym at_r.same_family ∙ at_s.same_family)))

    -- two routes that hold it, of one length, are one
    same_route : (r s : Route V) → Contains routes r → Contains routes s → IsSubnetOf n r.0 → IsSubnetOf n s.0
        → r.0.prefix_len ≡ s.0.prefix_len → r ≡ s
    same_route r s c d sub_r sub_s len = elim (order_total r.0 s.0) [
      | inl (inl same) ↦ one_value list t r s c d same
      | inl (inr before) ↦ absurd (not_after r.0 s.0 (valid r c) (valid s d) (cut s d)
          (inside r s sub_r sub_s (omega (arith, len))) before)
      | inr after ↦ absurd (not_after s.0 r.0 (valid s d) (valid r c) (cut r c)
          (inside s r sub_s sub_r (omega (arith, len))) after)
    ]

    pub holders_none : ((k : Network) → Contains (networks_of routes) k → IsSubnetOf n k → ⊥) → holders routes n ≡ []
    holders_none out = nil_from_none (holders routes n) (λ q c.
        let there = (members routes n q).0 c in
        out q.0 (subst (λ z. Contains z q.0) (sym (same_networks list)) (network_of_route list q there.0))
        (block_held q.0 n there.1))

    holders_from : (r : Route V) → IsLongestHolder routes n r → (rest : List (Route V)) → AllPairs Earlier rest
        → ((q : Route V) → Contains rest q → Contains routes q × IsSubnetOf r.0 q.0 × (q.0.prefix_len < r.0.prefix_len))
        → ((q : Route V) → Contains routes q → IsSubnetOf r.0 q.0 → q.0.prefix_len < r.0.prefix_len → Contains rest q)
        → holders routes n ≡ r ∷ rest
    holders_from r longest rest pairs gives has =
        same_from_members Earlier (λ x y p q. IsBefore-asymmetric y.0 x.0 p q) (holders routes n) (r ∷ rest)
        (holders_descend routes n (ordered_routes list t)) (pairs_cons Earlier r rest earlier pairs) there back
      where
        earlier : (q : Route V) → Contains rest q → IsBefore q.0 r.0
        earlier q c =
            let facts = gives q c in
            elim (order_total q.0 r.0) [
              | inl (inl same) ↦ absurd (omega (arith, facts.2, ap (λ z. z.prefix_len) same))
              | inl (inr before) ↦ before
              | inr after ↦ absurd (not_after r.0 q.0 (valid r longest.member) (valid q facts.0) (cut q facts.0) facts.1
                  after)
            ]

        there : (q : Route V) → Contains (holders routes n) q → Contains (r ∷ rest) q
        there q c =
            let held = (members routes n q).0 c in
            let sub : IsSubnetOf n q.0 = block_held q.0 n held.1 in
            let le : q.0.prefix_len ≤ r.0.prefix_len = longest.longest q held.0 sub in
            elim (cases_lt q.0.prefix_len r.0.prefix_len) [
              | inl lt ↦ contains_there r rest q (has q held.0 (inside r q longest.holds sub le) lt)
              | inr ge ↦ subst (Contains (r ∷ rest))
                  (same_route r q longest.member held.0 longest.holds sub (omega (arith, le, ge)))
                  (contains_here r rest)
            ]

        back : (q : Route V) → Contains (r ∷ rest) q → Contains (holders routes n) q
        back q c = elim (contains_cases r rest q c) [
          | inl same ↦ subst (Contains (holders routes n)) same ((members routes n r).1
              (longest.member, held_block r.0 n (valid r longest.member) valid_n longest.holds))
          | inr later ↦
              let facts = gives q later in
              (members routes n q).1 (
                facts.0,
                held_block q.0 n (valid q facts.0) valid_n
                    (λ x a. facts.1 x (longest.holds x a)),
              )
        ]

    pub holders_on : (r : Route V) → IsLongestHolder routes n r → (s : Network) → IsSupernetOf s r.0
        → holders routes n ≡ r ∷ holders routes s
    holders_on r longest s super = holders_from r longest (holders routes s)
        (holders_descend routes s (ordered_routes list t))
        (λ q c.
        let held = (members routes s q).0 c in
        let sub : IsSubnetOf s q.0 = block_held q.0 s held.1 in
        let le : q.0.prefix_len ≤ s.prefix_len = longer_from_subnet s q.0 super.network (valid q held.0) sub in
        (held.0, λ x a. sub x (super.contains x a), omega (arith, le, super.shorter)))
        (λ q c sub lt.
        let at_s : InBlock s (own r.0) = super.contains (own r.0) (own_in r.0) in
        let at_q : InBlock q.0 (own r.0) = sub (own r.0) (own_in r.0) in
        (members routes s q).1 (
          c,
          held_block q.0 s (valid q c) super.network
              (nested s q.0 (own r.0) at_s at_q
              (omega (arith, lt, super.shorter, ap width (sym at_s.same_family ∙ at_q.same_family)))),
        ))

    pub holders_end : (r : Route V) → IsLongestHolder routes n r → r.0.prefix_len ≡ 0 → holders routes n ≡ r ∷ []
    holders_end r longest none = holders_from r longest [] (λ i j d l m. absurd (omega (arith, m)))
        (λ q c. absurd (contains_nil q c)) (λ q c sub lt. absurd (omega (arith, lt, none)))

    pub longest_first : AllPairs (λ r s. s.0.prefix_len < r.0.prefix_len) (holders routes n)
    longest_first = pairs_from_members Earlier (λ r s. s.0.prefix_len < r.0.prefix_len) (holders routes n)
        (λ r s c d before.
        let held_r = (members routes n r).0 c in
        let held_s = (members routes n s).0 d in
        let sub_r : IsSubnetOf n r.0 = block_held r.0 n held_r.1 in
        let sub_s : IsSubnetOf n s.0 = block_held s.0 n held_s.1 in
        elim (cases_lt s.0.prefix_len r.0.prefix_len) [
          | inl lt ↦ lt
          | inr ge ↦ absurd (not_after s.0 r.0 (valid s held_s.0) (valid r held_r.0) (cut r held_r.0)
              (inside s r sub_s sub_r ge) before)
        ])
        (holders_descend routes n (ordered_routes list t))

    pub is_holder : (q : Route V) → Contains (holders routes n) q ↔ (Contains routes q × IsSubnetOf n q.0)
    is_holder q = (
      λ c. let held = (members routes n q).0 c in (held.0, block_held q.0 n held.1),
      λ h. (members routes n q).1 (h.0, held_block q.0 n (valid q h.0) valid_n h.1),
    )

-- the holders of an address's own network are its matches
pub holders_match : {V : Type 0} (list : List (IpNet × V)) → IsTable (ip_networks list) → (x : Address)
    → IsNetwork (host x) → AreMatches (ip_routes list) x (holders (ip_routes list) (host x))
holders_match list t x valid = record {
  longest_first = longest_first list t (host x) valid;
  members = λ r. (
    λ c. let held = (is_holder list t (host x) valid r).0 c in (held.0, in_from_host r.0 x held.1),
    λ h. (is_holder list t (host x) valid r).1 (h.0, host_in r.0 x h.1),
  );
}

-- one step: the longest holder, and then the holders of its supernet
pub holders_after : {V : Type 0} (list : List (IpNet × V)) → IsTable (ip_networks list) → (n : Network) → IsNetwork n
    → (r : Route V) → IsLongestHolder (ip_routes list) n r → (o : Option IpNet) → IsNone o ↔ (r.0.prefix_len ≡ 0)
    → IfSome o (λ s. IsSupernetOf (ip_network s) r.0)
    → holders (ip_routes list) n ≡ r ∷ holders_of (ip_routes list) o
holders_after list t n valid r longest None none some = holders_end list t n valid r longest (none.0 refl)
holders_after list t n valid r longest (Some s) none some = holders_on list t n valid r longest (ip_network s) some
