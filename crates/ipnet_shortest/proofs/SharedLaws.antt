-- A list of networks is shared by two blocks, or one of its networks contains both.
use Rattle.std.proofs.Common.{ℕ, ◌+◌, ◌≤◌, ◌⊎◌, inl, inr, List, [], ◌∷◌, length, Contains, All}
use Rattle.std.proofs.Common.{subst, arith}
use Rattle.ipnet_base.specs.Address.{Address}
use Rattle.ipnet_base.specs.Network.{Network, IsNetwork, InBlock, IsSubnetOf, AreDisjoint}
use Rattle.ipnet_base.specs.Blocks.{IsCoveredBy}
use Rattle.ipnet_base.proofs.BlockLaws.{own, own_in}
use Rattle.ipnet_base.proofs.CoverLaws.{cover_cons, cover_one}
use Rattle.ipnet_base.proofs.ListLaws.{contains_here, contains_there, contains_nil, contains_cases, all_at}
use Rattle.ipnet_base.proofs.ListLaws.{all_from_members, any_from_contains}
use Rattle.ipnet_base.proofs.NestingLaws.{nested_or_disjoint}
use Rattle.ipnet_shortest.specs.PartCovers.{IsAroundBoth}

-- The list `first` covers what the networks cover in one block, and `second` what they cover in the other.
pub record IsShared (l r : Network) (networks first second : List Network) : Type 0 where
  pub valid_first : All IsNetwork first
  pub valid_second : All IsNetwork second
  pub from_first : (x : Address) → IsCoveredBy first x → IsCoveredBy networks x
  pub from_second : (x : Address) → IsCoveredBy second x → IsCoveredBy networks x
  pub in_first : (x : Address) → InBlock l x → IsCoveredBy networks x → IsCoveredBy first x
  pub in_second : (x : Address) → InBlock r x → IsCoveredBy networks x → IsCoveredBy second x

-- One of the networks contains the block.
abbrev pub HasWhole : Network → List Network → Type 0
HasWhole b networks = (n : Network) × Contains networks n × IsSubnetOf b n

-- The shares have no more networks than the list.
abbrev HasShares : Network → Network → List Network → ℕ → Type 0
HasShares l r networks k = (first second : List Network) × IsShared l r networks first second
    × (length first + length second ≤ k)

meets_or_not : (n k : Network) → ((x : Address) × InBlock n x × InBlock k x) ⊎ AreDisjoint n k
meets_or_not n k = elim (nested_or_disjoint n k) [
  | inl s ↦ inl (own n, own_in n, s (own n) (own_in n))
  | inr (inl s) ↦ inl (own k, s (own k) (own_in k), own_in k)
  | inr (inr d) ↦ inr d
]

all_cons : (n : Network) (networks : List Network) → IsNetwork n → All IsNetwork networks → All IsNetwork (n ∷ networks)
all_cons n networks u all = all_from_members IsNetwork (n ∷ networks) (λ k c. elim (contains_cases n networks k c) [
  | inl e ↦ subst IsNetwork e u
  | inr d ↦ all_at IsNetwork networks all k d
])

all_tail : (n : Network) (networks : List Network) → All IsNetwork (n ∷ networks) → All IsNetwork networks
all_tail n networks all = all_from_members IsNetwork networks
    (λ k c. all_at IsNetwork (n ∷ networks) all k (contains_there n networks k c))

all_nil : All IsNetwork []
all_nil = all_from_members IsNetwork [] (λ k c. absurd (contains_nil k c))

pub all_one : (n : Network) → IsNetwork n → All IsNetwork (n ∷ [])
all_one n u = all_cons n [] u all_nil

module _ (b l r : Network) (apart : AreDisjoint l r) (around : IsAroundBoth b l r) where
  -- one network more: in the first share if it has an address of the first block, in the second if not
  more_first : (n : Network) (networks first second : List Network) → IsNetwork n → AreDisjoint n r
      → IsShared l r networks first second → IsShared l r (n ∷ networks) (n ∷ first) second
  more_first n networks first second u out h = record {
    valid_first = all_cons n first u h.valid_first;
    valid_second = h.valid_second;
    from_first = λ x c. elim ((cover_cons n first x).0 c) [
      | inl a ↦ (cover_cons n networks x).1 (inl a)
      | inr d ↦ (cover_cons n networks x).1 (inr (h.from_first x d))
    ];
    from_second = λ x c. (cover_cons n networks x).1 (inr (h.from_second x c));
    in_first = λ x a c. elim ((cover_cons n networks x).0 c) [
      | inl i ↦ (cover_cons n first x).1 (inl i)
      | inr d ↦ (cover_cons n first x).1 (inr (h.in_first x a d))
    ];
    in_second = λ x a c. elim ((cover_cons n networks x).0 c) [
      | inl i ↦ absurd (out x i a)
      | inr d ↦ h.in_second x a d
    ];
  }

  more_second : (n : Network) (networks first second : List Network) → IsNetwork n → AreDisjoint n l
      → IsShared l r networks first second → IsShared l r (n ∷ networks) first (n ∷ second)
  more_second n networks first second u out h = record {
    valid_first = h.valid_first;
    valid_second = all_cons n second u h.valid_second;
    from_first = λ x c. (cover_cons n networks x).1 (inr (h.from_first x c));
    from_second = λ x c. elim ((cover_cons n second x).0 c) [
      | inl a ↦ (cover_cons n networks x).1 (inl a)
      | inr d ↦ (cover_cons n networks x).1 (inr (h.from_second x d))
    ];
    in_first = λ x a c. elim ((cover_cons n networks x).0 c) [
      | inl i ↦ absurd (out x i a)
      | inr d ↦ h.in_first x a d
    ];
    in_second = λ x a c. elim ((cover_cons n networks x).0 c) [
      | inl i ↦ (cover_cons n second x).1 (inl i)
      | inr d ↦ (cover_cons n second x).1 (inr (h.in_second x a d))
    ];
  }

  pub shares_or_whole : (networks : List Network) → All IsNetwork networks
      → HasWhole b networks ⊎ HasShares l r networks (length networks)
  shares_or_whole [] all = inr (
    [],
    [],
    record {
      valid_first = all_nil;
      valid_second = all_nil;
      from_first = λ x c. c;
      from_second = λ x c. c;
      in_first = λ x a c. c;
      in_second = λ x a c. c;
    },
    omega arith,
  )
  shares_or_whole (n ∷ networks) all =
      let u : IsNetwork n = all_at IsNetwork (n ∷ networks) all n (contains_here n networks) in
      elim (shares_or_whole networks (all_tail n networks all)) [
        | inl whole ↦ inl (whole.0, contains_there n networks whole.0 whole.1, whole.2)
        | inr (first, second, h, few) ↦ elim (meets_or_not n l) [
          | inr out ↦ inr (first, n ∷ second, more_second n networks first second u out h, omega (arith, few))
          | inl (x, nx, lx) ↦ elim (meets_or_not n r) [
            | inr out ↦ inr (n ∷ first, second, more_first n networks first second u out h, omega (arith, few))
            | inl (y, ny, ry) ↦ inl (n, contains_here n networks, around n x y nx lx ny ry)
          ]
        ]
      ]

  -- a network that contains the block can be replaced by the two blocks, if two networks are allowed
  pub whole_shared : (networks : List Network) → IsNetwork l → IsNetwork r → IsSubnetOf l b → IsSubnetOf r b
      → HasWhole b networks → IsShared l r networks (l ∷ []) (r ∷ [])
  whole_shared networks u v l_in r_in (n, c, sub) = record {
    valid_first = all_one l u;
    valid_second = all_one r v;
    from_first = λ x h. any_from_contains (λ m. InBlock m x) networks n c (sub x (l_in x ((cover_one l x).0 h)));
    from_second = λ x h. any_from_contains (λ m. InBlock m x) networks n c (sub x (r_in x ((cover_one r x).0 h)));
    in_first = λ x a h. (cover_one l x).1 a;
    in_second = λ x a h. (cover_one r x).1 a;
  }
