-- The first lease in the way of a network or of a set, found by going through the leases or the networks in order.
use Rattle.std.proofs.Common.{◌≡◌, ◌⊎◌, ◌≤◌, List, [], ◌∷◌, Contains, sym, ap, ◌∙◌, subst, arith, inl, inr}
use Rattle.std.proofs.lemmas.Bool.{cases_lt}
use Rattle.ipnet_base.specs.Address.{Address, IsAddress, IsAddressBefore, family_index}
use Rattle.ipnet_base.specs.Network.{Network, InBlock, IsTruncated, AreDisjoint, IsBefore}
use Rattle.ipnet_base.specs.Blocks.{IsAscending, IsMaximal, IsCoveredBy, AreMaximalBlocks}
use Rattle.ipnet_base.proofs.BlockLaws.{own, own_in, block_between}
use Rattle.ipnet_base.proofs.CoverLaws.{cover_nil, cover_cons}
use Rattle.ipnet_base.proofs.DecidedLaws.{IsDecided}
use Rattle.ipnet_base.proofs.ListLaws.{contains_nil, contains_here, contains_there, contains_cases}
use Rattle.ipnet_base.proofs.ListLaws.{pairs_head, pairs_tail}
use Rattle.ipnet_base.proofs.MaximalLaws.{one_maximal}
use Rattle.ipnet_base.proofs.OrderLaws.{IsBefore-asymmetric, order_total}
use Rattle.ipnet.specs.declared.net.IpNet.{IpNet}
use Rattle.ipnet.specs.NetworkOf.{ip_network}
use Rattle.ipnet.specs.NetLaws.{ip_one_to_one}
use Rattle.ipnet_pools.specs.Leases.{HasLeaseOf, IsInLease, AreLeases, HasAddressOf, IsFirstWithAddressOf}
use Rattle.ipnet_pools.specs.Leases.{networks_of_leases}
use Rattle.ipnet_pools.proofs.MappedLaws.{contains_map}
use Rattle.ipnet_pools.proofs.OwnLaws.{same_or_not, covering, covers_from_members}

-- the addresses of two disjoint networks are in the order of the networks, and the networks in the order of addresses
before_addresses : (n k : Network) → IsTruncated k → AreDisjoint n k → IsBefore n k → (x y : Address) → InBlock n x
    → InBlock k y → IsAddressBefore x y
before_addresses n k t apart (inl lt) x y a b =
    inl (omega (arith, lt, ap family_index a.same_family, ap family_index b.same_family))
before_addresses n k t apart (inr (f, inl lt)) x y a b = elim (cases_lt x.number y.number) [
  | inl less ↦ inr (a.same_family ∙ f ∙ sym b.same_family, less)
  | inr le ↦
      let low : n.number ≤ y.number = omega (arith, lt, t y b) in
      absurd (apart y (block_between n x y a (b.same_family ∙ sym f) low le) b)
]
before_addresses n k t apart (inr (f, inr (e, lt))) x y a b =
    absurd (apart (own n) (own_in n)
    (block_between k (own k) (own n) (own_in k) f (omega (arith, e)) (omega (arith, e))))

one_order : (x y : Address) → IsAddressBefore x y → IsAddressBefore y x → ⊥
one_order x y (inl a) (inl b) = omega (arith, a, b)
one_order x y (inl a) (inr b) = omega (arith, a, ap family_index b.0)
one_order x y (inr a) (inl b) = omega (arith, b, ap family_index a.0)
one_order x y (inr a) (inr b) = omega (arith, a.1, b.1)

before_from_addresses : (n k : Network) → IsTruncated n → AreDisjoint n k → (x y : Address) → InBlock n x
    → InBlock k y → IsAddressBefore x y → IsBefore n k
before_from_addresses n k t apart x y a b before = elim (order_total n k) [
  | inl (inl same) ↦ absurd (apart (own n) (own_in n) (subst (λ z. InBlock z (own n)) same (own_in n)))
  | inl (inr less) ↦ less
  | inr after ↦
      absurd (one_order x y before (before_addresses k n t (λ z c d. apart z d c) after y x b a))
]

-- the leases that are left have all leases with an address of the set
pub record AreLeftToScan {V : Type 0} (leases : List (IpNet × V)) (InSet : Address → Type 0) (left : List (IpNet × V))
    : Type 0 where
  pub ascending : IsAscending (networks_of_leases left)
  pub members : (n : IpNet) → HasLeaseOf left n → HasLeaseOf leases n
  pub others : (n : IpNet) → HasLeaseOf leases n → HasAddressOf InSet n → HasLeaseOf left n

-- the first of the leases that are left, or a later one
later : {V : Type 0} (n k : IpNet) (v : V) (more : List (IpNet × V)) → HasLeaseOf ((n, v) ∷ more) k
    → (k ≡ n) ⊎ HasLeaseOf more k
later n k v more (w, c) = elim (contains_cases (n, v) more (k, w) c) [
  | inl same ↦ inl (sym (ap (λ z. z.0) same))
  | inr rest ↦ inr (w, rest)
]

module _ {V : Type 0} (leases : List (IpNet × V)) (InSet : Address → Type 0) where
  pub scan_begins : IsAscending (networks_of_leases leases) → AreLeftToScan leases InSet leases
  scan_begins up = record { ascending = up; members = λ n h. h; others = λ n h a. h }

  module _ (left more : List (IpNet × V)) (n : IpNet) (v : V) (here : left ≡ (n, v) ∷ more)
      (scan : AreLeftToScan leases InSet left) where
    at_first : AreLeftToScan leases InSet ((n, v) ∷ more)
    at_first = subst (AreLeftToScan leases InSet) here scan

    pub scan_goes_on : ¬ (HasAddressOf InSet n) → AreLeftToScan leases InSet more
    scan_goes_on none = record {
      ascending = pairs_tail IsBefore (ip_network n) (networks_of_leases more) at_first.ascending;
      members = λ k h. at_first.members k (h.0, contains_there (n, v) more (k, h.0) h.1);
      others = λ k h a. elim (later n k v more (at_first.others k h a)) [
        | inl same ↦ absurd (none (subst (HasAddressOf InSet) same a))
        | inr rest ↦ rest
      ];
    }

    pub scan_finds : HasAddressOf InSet n → IsFirstWithAddressOf leases InSet n
    scan_finds shared = record {
      leased = at_first.members n (v, contains_here (n, v) more);
      shared = shared;
      first = λ k h a. elim (later n k v more (at_first.others k h a)) [
        | inl same ↦ inl same
        | inr rest ↦ inr (pairs_head IsBefore (ip_network n) (networks_of_leases more) at_first.ascending (ip_network k)
            (contains_map (λ lease. ip_network lease.0) more (k, rest.0) rest.1))
      ];
    }

  pub scan_ends : (left : List (IpNet × V)) → left ≡ [] → AreLeftToScan leases InSet left → (x : Address) → InSet x
      → ¬ (IsInLease leases x)
  scan_ends left none scan x s (n, h, a) =
      let rest = scan.others n h (x, a, s) in
      contains_nil (n, rest.0) (subst (λ z. Contains z (n, rest.0)) none rest.1)

-- the networks that are left are maximal blocks of the set, and have all its addresses that lie in a lease
pub record AreLeftToSearch {V : Type 0} (leases : List (IpNet × V)) (InSet : Address → Type 0) (left : List Network)
    : Type 0 where
  pub ascending : IsAscending left
  pub maximal : (n : Network) → Contains left n → IsMaximal InSet 0 n
  pub others : (x : Address) → InSet x → IsInLease leases x → IsCoveredBy left x

module _ {V : Type 0} (leases : List (IpNet × V)) (InSet : Address → Type 0) where
  pub search_begins : IsDecided InSet → ((x : Address) → InSet x → IsAddress x) → (networks : List Network)
      → AreMaximalBlocks InSet 0 networks → AreLeftToSearch leases InSet networks
  search_begins dec fits networks blocks = record {
    ascending = blocks.ascending;
    maximal = λ n c. (blocks.members n).0 c;
    others = λ x s i. (covers_from_members InSet dec fits networks blocks.members x).1 s;
  }

  module _ (left more : List Network) (k : Network) (here : left ≡ k ∷ more)
      (search : AreLeftToSearch leases InSet left) where
    at_network : AreLeftToSearch leases InSet (k ∷ more)
    at_network = subst (AreLeftToSearch leases InSet) here search

    pub search_goes_on : ((x : Address) → InBlock k x → ¬ (IsInLease leases x)) → AreLeftToSearch leases InSet more
    search_goes_on none = record {
      ascending = pairs_tail IsBefore k more at_network.ascending;
      maximal = λ n c. at_network.maximal n (contains_there k more n c);
      others = λ x s i. elim ((cover_cons k more x).0 (at_network.others x s i)) [
        | inl a ↦ absurd (none x a i)
        | inr rest ↦ rest
      ];
    }

    maximal_here : IsMaximal InSet 0 k
    maximal_here = at_network.maximal k (contains_here k more)

    -- a lease with an address of a later network comes after the lease with an address of this network
    after_first : (n m : IpNet) → AreLeases leases → HasLeaseOf leases n → HasLeaseOf leases m → (x y : Address)
        → InBlock (ip_network n) x → InBlock k x → InBlock (ip_network m) y → IsCoveredBy more y
        → (m ≡ n) ⊎ IsBefore (ip_network n) (ip_network m)
    after_first n m l has_n has_m x y x_in_n x_in_k y_in_m covered = elim (same_or_not (ip_network n) (ip_network m)) [
      | inl same ↦ inl (sym (ip_one_to_one n m same))
      | inr other ↦
          let (j, c, y_in_j) = covering more y covered in
          let k_before_j : IsBefore k j = pairs_head IsBefore k more at_network.ascending j c in
          let max_j : IsMaximal InSet 0 j = at_network.maximal j (contains_there k more j c) in
          let apart : AreDisjoint k j = λ z in_k in_j.
          let itself : IsBefore k k = subst (IsBefore k)
          (sym (one_maximal InSet 0 k j maximal_here max_j z in_k in_j)) k_before_j in
          IsBefore-asymmetric k k itself itself in
          let in_order : IsAddressBefore x y =
          before_addresses k j max_j.inside.truncated apart k_before_j x y x_in_k y_in_j in
          inr (before_from_addresses (ip_network n) (ip_network m) (l.truncated n has_n)
          (l.apart n m has_n has_m (λ e. other (ap ip_network e))) x y x_in_n y_in_m in_order)
    ]

    pub search_finds : AreLeases leases → (n : IpNet) → IsFirstWithAddressOf leases (InBlock k) n
        → IsFirstWithAddressOf leases InSet n
    search_finds l n h = record {
      leased = h.leased;
      shared = let (x, a, b) = h.shared in (x, a, maximal_here.inside.within x b);
      first = λ m has (y, a, s). elim ((cover_cons k more y).0 (at_network.others y s (m, has, a))) [
        | inl in_k ↦ h.first m has (y, a, in_k)
        | inr covered ↦
            let (x, b, in_k) = h.shared in
            after_first n m l h.leased has x y b in_k a covered
      ];
    }

  pub search_ends : (left : List Network) → left ≡ [] → AreLeftToSearch leases InSet left → (x : Address) → InSet x
      → ¬ (IsInLease leases x)
  search_ends left none search x s i =
      cover_nil x (subst (λ z. IsCoveredBy z x) none (search.others x s i))
