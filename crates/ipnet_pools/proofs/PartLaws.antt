-- A set in two parts: if no network of the set has addresses of both, then the parts have its maximal blocks.
use Rattle.std.proofs.Common.{◌≡◌, ◌⊎◌, ◌↔◌, sym, subst, arith, inl, inr}
use Rattle.std.proofs.lemmas.Bool.{cases_lt}
use Rattle.ipnet_base.specs.Address.{Address}
use Rattle.ipnet_base.specs.Network.{Network, IsNetwork, InBlock, IsSubnetOf, IsTruncated, AreDisjoint, IsSupernetOf}
use Rattle.ipnet_base.specs.Network.{host_bits}
use Rattle.ipnet_base.specs.Blocks.{IsInside, IsMaximal}
use Rattle.ipnet_base.proofs.BlockLaws.{own, own_in}
use Rattle.ipnet_base.proofs.MaximalLaws.{IsInside-of_block}
use Rattle.ipnet_base.proofs.NestingLaws.{nested, nested_or_disjoint}
use Rattle.ipnet_base.proofs.NetworkLaws.{same_from_block}
use Rattle.ipnet_base.proofs.SupernetLaws.{supernet_below}
use Rattle.ipnet_pools.specs.Fits.{Without}

-- the set S has the parts A and C, and each network in S lies in one of them
pub record IsParted (S A C : Address → Type 0) : Type 0 where
  pub first : (x : Address) → A x → S x
  pub second : (x : Address) → C x → S x
  pub apart : (x : Address) → A x → C x → ⊥
  pub one : (k : Network) → IsInside S 0 k → IsInside A 0 k ⊎ IsInside C 0 k

pub parted_maximal : (S A C : Address → Type 0) → IsParted S A C → (m : Network)
    → IsMaximal S 0 m ↔ (IsMaximal A 0 m ⊎ IsMaximal C 0 m)
parted_maximal S A C p m = (
  λ h. elim (p.one m h.inside) [
    | inl i ↦ inl (record {
      inside = i;
      largest = λ k j sub.
          h.largest k (IsInside-of_block A S 0 k j (λ x a. p.first x (j.within x a))) sub;
    })
    | inr i ↦ inr (record {
      inside = i;
      largest = λ k j sub.
          h.largest k (IsInside-of_block C S 0 k j (λ x a. p.second x (j.within x a))) sub;
    })
  ],
  λ h. elim h [
    | inl f ↦ record {
      inside = IsInside-of_block A S 0 m f.inside (λ x a. p.first x (f.inside.within x a));
      largest = λ k j sub. elim (p.one k j) [
        | inl i ↦ f.largest k i sub
        | inr i ↦ absurd (p.apart (own m) (f.inside.within (own m) (own_in m))
            (i.within (own m) (sub (own m) (own_in m))))
      ];
    }
    | inr s ↦ record {
      inside = IsInside-of_block C S 0 m s.inside (λ x a. p.second x (s.inside.within x a));
      largest = λ k j sub. elim (p.one k j) [
        | inr i ↦ s.largest k i sub
        | inl i ↦ absurd (p.apart (own m) (i.within (own m) (sub (own m) (own_in m)))
            (s.inside.within (own m) (own_in m)))
      ];
    }
  ],
)

-- a block has one maximal block, itself
pub block_maximal : (n : Network) → IsNetwork n → IsTruncated n → (m : Network) → IsMaximal (InBlock n) 0 m ↔ (m ≡ n)
block_maximal n u t m = (
  λ h. sym (h.largest n itself h.inside.within),
  λ same. subst (IsMaximal (InBlock n) 0) (sym same) (record {
    inside = itself;
    largest = λ k i sub. same_from_block k n i.network u i.truncated t (i.within, sub);
  }),
)
  where
    itself : IsInside (InBlock n) 0 n
    itself = record { network = u; truncated = t; long_enough = omega arith; within = λ x a. a }

pub maximal_same : (A B : Address → Type 0) → ((x : Address) → A x ↔ B x) → (m : Network) → IsMaximal A 0 m
    → IsMaximal B 0 m
maximal_same A B same m h = record {
  inside = IsInside-of_block A B 0 m h.inside (λ x a. (same x).0 (h.inside.within x a));
  largest = λ k i sub. h.largest k (IsInside-of_block B A 0 k i (λ x a. (same x).1 (i.within x a))) sub;
}

-- a set without a network that it contains: the set without the network's supernet, and the other half
pub parted_half : (S : Address → Type 0) (n p h : Network) → IsSupernetOf p n → IsNetwork h → IsSupernetOf p h
    → IsTruncated h → ((x : Address) → InBlock p x → InBlock n x ⊎ InBlock h x) → AreDisjoint n h
    → ((x : Address) → InBlock p x → S x) → IsParted (Without S n) (Without S p) (InBlock h)
parted_half S n p h above u above_h t halves apart within = record {
  first = λ x a. (a.0, λ b. a.1 (above.contains x b));
  second = λ x b. (within x (above_h.contains x b), λ a. apart x a b);
  apart = λ x a b. a.1 (above_h.contains x b);
  one = λ k i. elim (nested_or_disjoint k h) [
    | inl s ↦ inr (IsInside-of_block (Without S n) (InBlock h) 0 k i s)
    | inr (inr d) ↦ inl (IsInside-of_block (Without S n) (Without S p) 0 k i (λ x a. (
      (i.within x a).0,
      λ b. elim (halves x b) [ inl c ↦ (i.within x a).1 c | inr c ↦ d x a c ],
    )))
    | inr (inl s) ↦ elim (cases_lt (host_bits h) (host_bits k)) [
      | inr le ↦
          inr (IsInside-of_block (Without S n) (InBlock h) 0 k i
          (nested k h (own h) (s (own h) (own_in h)) (own_in h) le))
      | inl lt ↦
          let up : IsSubnetOf p k = supernet_below p h k u above_h s lt in
          absurd ((i.within (own n) (up (own n) (above.contains (own n) (own_in n)))).1 (own_in n))
    ]
  ];
}

module _ (S : Address → Type 0) (b : Network) (max : IsMaximal S 0 b) where
  -- a set: the set without a maximal block, and the block
  pub parted_whole : IsParted S (Without S b) (InBlock b)
  parted_whole = record {
    first = λ x a. a.0;
    second = λ x a. max.inside.within x a;
    apart = λ x a c. a.1 c;
    one = λ k i. elim (nested_or_disjoint k b) [
      | inl s ↦ inr (IsInside-of_block S (InBlock b) 0 k i s)
      | inr (inr d) ↦ inl (IsInside-of_block S (Without S b) 0 k i (λ x a. (i.within x a, λ c. d x a c)))
      | inr (inl s) ↦
          let same : k ≡ b = max.largest k i s in
          inr (IsInside-of_block S (InBlock b) 0 k i (λ x a. subst (λ z. InBlock z x) same a))
    ];
  }

  -- the set without a network: the set without the maximal block that the network lies in, and the rest of the block
  pub parted_cut : (n : Network) → IsSubnetOf n b → IsParted (Without S n) (Without S b) (Without (InBlock b) n)
  parted_cut n sub = record {
    first = λ x a. (a.0, λ c. a.1 (sub x c));
    second = λ x a. (max.inside.within x a.0, a.1);
    apart = λ x a c. a.1 c.0;
    one = λ k i. elim (nested_or_disjoint k b) [
      | inl s ↦ inr (IsInside-of_block (Without S n) (Without (InBlock b) n) 0 k i (λ x a. (s x a, (i.within x a).1)))
      | inr (inr d) ↦
          inl (IsInside-of_block (Without S n) (Without S b) 0 k i (λ x a. ((i.within x a).0, λ c. d x a c)))
      | inr (inl s) ↦
          absurd ((i.within (own n) (s (own n) (sub (own n) (own_in n)))).1 (own_in n))
    ];
  }
