-- Single maximal networks: two that share an address are the same, a network is maximal if its supernet is not inside,
-- and each network inside a set that can be decided lies in a maximal one.
use Rattle.std.proofs.Common.{◌≡◌, ℕ, ◌<◌, ◌≤◌, sym, ap, arith, inl, inr, zero, suc}
use Rattle.std.proofs.lemmas.Bool.{cases_lt}
use Rattle.ipnet_base.specs.Address.{Address, width}
use Rattle.ipnet_base.specs.Network.{Network, InBlock, IsSubnetOf, host_bits, IsSupernetOf}
use Rattle.ipnet_base.specs.Blocks.{IsInside, IsMaximal}
use Rattle.ipnet_base.proofs.BlockLaws.{own, own_in}
use Rattle.ipnet_base.proofs.NestingLaws.{nested_or_disjoint, nested, bits_from_subnet}
use Rattle.ipnet_base.proofs.NetworkLaws.{same_from_block}
use Rattle.ipnet_base.proofs.DecidedLaws.{IsDecided, block_decided}
use Rattle.ipnet_base.proofs.SupernetLaws.{supernet, IsSupernetOf-supernet, supernet_below}

-- a network inside one set is inside another that has its block
pub IsInside-of_block : (A B : Address → Type 0) (least : ℕ) (n : Network) → IsInside A least n
    → ((x : Address) → InBlock n x → B x) → IsInside B least n
IsInside-of_block A B least n i within = record {
  network = i.network;
  truncated = i.truncated;
  long_enough = i.long_enough;
  within = within;
}

-- maximal networks that share an address are one
pub one_maximal : (InSet : Address → Type 0) (least : ℕ) (n k : Network) → IsMaximal InSet least n
    → IsMaximal InSet least k
    → (x : Address) → InBlock n x → InBlock k x → n ≡ k
one_maximal InSet least n k p q x a b =
    elim (nested_or_disjoint n k) [
      | inl s ↦ sym (p.largest k q.inside s)
      | inr (inl s) ↦ q.largest n p.inside s
      | inr (inr d) ↦ absurd (d x a b)
    ]

-- a network is maximal if its supernet is not inside
IsMaximal-from_supernet : (InSet : Address → Type 0) (least : ℕ) (n : Network) → IsInside InSet least n
    → (0 < n.prefix_len → IsInside InSet least (supernet n) → ⊥) → IsMaximal InSet least n
IsMaximal-from_supernet InSet least n inside no_supernet = record {
  inside = inside;
  largest = λ k i sub.
      let k_own : InBlock k (own n) = sub (own n) (own_in n) in
      elim (cases_lt (host_bits n) (host_bits k)) [
        | inr le ↦ same_from_block k n i.network inside.network i.truncated inside.truncated
            (nested k n (own n) k_own (own_in n) le, sub)
        | inl lt ↦
            let long : 0 < n.prefix_len = omega (arith, lt, ap width k_own.same_family) in
            let p : IsSupernetOf (supernet n) n = IsSupernetOf-supernet n inside.network long in
            let below : IsSubnetOf (supernet n) k = supernet_below (supernet n) n k inside.network p sub lt in
            absurd (no_supernet long (record {
              network = p.network;
              truncated = p.truncated;
              long_enough =
                  omega (
                    arith,
                    i.long_enough,
                    bits_from_subnet (supernet n) k below,
                    ap width k_own.same_family,
                    i.network.prefix_fits,
                    p.network.prefix_fits,
                  );
              within = λ x a. i.within x (below x a);
            }))
      ];
}

-- from supernet to supernet, as long as these are inside
climb : (InSet : Address → Type 0) (least : ℕ) → IsDecided InSet → (d : ℕ) (n : Network) → n.prefix_len ≤ d
    → IsInside InSet least n
    → (m : Network) × IsMaximal InSet least m × IsSubnetOf n m
climb InSet least dec zero n le i =
    (n, IsMaximal-from_supernet InSet least n i (λ long j. omega (arith, long, le)), λ x a. a)
climb InSet least dec (suc d) n le i =
    elim (cases_lt least n.prefix_len) [
      | inr short ↦
          (n, IsMaximal-from_supernet InSet least n i (λ long j. omega (arith, long, j.long_enough, short)), λ x a. a)
      | inl long ↦
          let p : IsSupernetOf (supernet n) n = IsSupernetOf-supernet n i.network (omega arith) in
          elim (block_decided InSet dec (supernet n)) [
            | inr fails ↦ (n, IsMaximal-from_supernet InSet least n i (λ pos j. fails j.within), λ x a. a)
            | inl within ↦
                let (m, max, sub) = climb InSet least dec d (supernet n) (omega arith)
                (record {
                  network = p.network;
                  truncated = p.truncated;
                  long_enough =
                      omega (arith, long);
                  within = within;
                }) in
                (m, max, λ x a. sub x (p.contains x a))
          ]
    ]

-- each network inside lies in a maximal one
pub maximal_above : (InSet : Address → Type 0) (least : ℕ) → IsDecided InSet → (n : Network) → IsInside InSet least n
    → (m : Network) × IsMaximal InSet least m × IsSubnetOf n m
maximal_above InSet least dec n i = climb InSet least dec n.prefix_len n (omega arith) i
