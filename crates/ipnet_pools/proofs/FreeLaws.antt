-- The free blocks after a network is cut out of them, and after one is added.
use Rattle.std.proofs.Common.{◌≡◌, ◌⊎◌, ◌↔◌, List, Contains, sym, subst, arith, inl, inr, [], ◌∷◌}
use Rattle.std.proofs.Common.{Result, Ok, Err, OnOk, OnErr}
use Rattle.std.specs.Prelude.{⊤}
use Rattle.ipnet_base.specs.Address.{Address, IsAddress}
use Rattle.ipnet_base.specs.Network.{Network, IsNetwork, InBlock, IsSubnetOf, IsTruncated}
use Rattle.ipnet_base.specs.Blocks.{IsMaximal, IsCoveredBy}
use Rattle.ipnet_base.proofs.BlockLaws.{own, own_in}
use Rattle.ipnet_base.proofs.CoverLaws.{covered_fits, cover_one}
use Rattle.ipnet_base.proofs.DecidedLaws.{IsDecided, IsDecided-cover}
use Rattle.ipnet_base.proofs.ListLaws.{any_from_contains, all_from_members, contains_cases, contains_nil}
use Rattle.ipnet_base.proofs.MaximalLaws.{maximal_above, one_maximal}
use Rattle.ipnet_pools.specs.BlocksOf.{blocks_of}
use Rattle.ipnet_pools.specs.Fits.{Without}
use Rattle.ipnet_pools.specs.declared.free.FreeBlocks.{FreeBlocks}
use Rattle.ipnet_pools.specs.OwnBlocks.{AreOwnBlocks}
use Rattle.ipnet_pools.specs.Pieces.{HaveSameNetworks, IsPartOf, HasNoPieces, IsSplit, AreBeside, IsJoined}
use Rattle.ipnet_pools.proofs.FitLaws.{in_block_or_not}
use Rattle.ipnet_pools.proofs.JoinLaws.{joined_maximal}
use Rattle.ipnet_pools.proofs.KeyLaws.{keys_valid}
use Rattle.ipnet_pools.proofs.OwnLaws.{AreOwn, own_members, own_from_members, covers_from_members, own_fits}
use Rattle.ipnet_pools.proofs.PartLaws.{parted_cut, parted_whole, parted_maximal, block_maximal}

block_fits : (n : Network) → IsNetwork n → (x : Address) → InBlock n x → IsAddress x
block_fits n u x a = covered_fits (n ∷ []) (all_from_members IsNetwork (n ∷ []) (λ m c.
    elim (contains_cases n [] m c) [ inl e ↦ subst IsNetwork e u | inr none ↦ absurd (contains_nil m none) ]))
    x ((cover_one n x).1 a)

-- the free blocks are the maximal blocks of what they cover
pub own_of : (free : FreeBlocks) → AreOwn (blocks_of free.blocks)
own_of free = own_members (blocks_of free.blocks) free.own (keys_valid free.blocks.keys.keys)

module _ (old : List Network) (own_blocks : AreOwn old) where
  abbrev pub Free : Address → Type 0
  Free = IsCoveredBy old

  module _ (new : List Network) (same : HaveSameNetworks old new) where
    same_members : (m : Network) → Contains new m ↔ IsMaximal Free 0 m
    same_members m = (λ c. (own_blocks m).0 ((same m).0 c), λ h. (same m).1 ((own_blocks m).1 h))

    pub same_own : AreOwnBlocks new
    same_own = own_from_members Free (IsDecided-cover old) (own_fits old own_blocks) new same_members

    pub same_cover : (x : Address) → IsCoveredBy new x ↔ Free x
    same_cover = covers_from_members Free (IsDecided-cover old) (own_fits old own_blocks) new same_members

  -- a network whose addresses are free lies in a block
  pub has_holder : (n : Network) → IsNetwork n → IsTruncated n → ((x : Address) → InBlock n x → Free x)
      → ((m : Network) → Contains old m → IsTruncated m → ¬ (IsSubnetOf n m)) → ⊥
  has_holder n u t free none =
      let (m, max, sub) = maximal_above Free 0 (IsDecided-cover old) n (record {
        network = u;
        truncated = t;
        long_enough = omega arith;
        within = free;
      }) in
      none m ((own_blocks m).1 max) max.inside.truncated sub

  module _ (n b : Network) (u : IsNetwork n) (t : IsTruncated n) (has : Contains old b) (sub : IsSubnetOf n b) where
    max : IsMaximal Free 0 b
    max = (own_blocks b).0 has

    pub part_of_holder : IsPartOf n b
    part_of_holder = record { within = sub; truncated = t; whole = max.inside.truncated }

    pub no_pieces : HasNoPieces old n b
    no_pieces m c m_in le =
        one_maximal Free 0 m b ((own_blocks m).0 c) max (own m) (own_in m) (m_in (own m) (own_in m))

    module _ (mid new : List Network) (split : IsSplit old mid n b)
        (removed : (m : Network) → Contains new m ↔ (Contains mid m × ¬ (m ≡ b))) where
      cut_members : (m : Network) → Contains new m ↔ IsMaximal (Without Free n) 0 m
      cut_members m =
          let cut =
          parted_maximal (Without Free n) (Without Free b) (Without (InBlock b) n) (parted_cut Free b max n sub)
          m in
          let whole = parted_maximal Free (Without Free b) (InBlock b) (parted_whole Free b max) m in
          let one = block_maximal b max.inside.network max.inside.truncated m in (
            λ c.
                let (d, other) = (removed m).0 c in
                cut.1 (elim ((split m).0 d) [
                  | inl o ↦ elim (whole.0 ((own_blocks m).0 o)) [
                    | inl h ↦ inl h
                    | inr h ↦ absurd (other (one.0 h))
                  ]
                  | inr h ↦ inr h
                ]),
            λ h. (removed m).1 (
              (split m).1 (elim (cut.0 h) [
                | inl i ↦ inl ((own_blocks m).1 (whole.1 (inl i)))
                | inr i ↦ inr i
              ]),
              λ e. (h.inside.within (own n) (subst (λ z. InBlock z (own n)) (sym e) (sub (own n) (own_in n)))).1
                  (own_in n),
            ),
          )

      dec : IsDecided (Without Free n)
      dec x = elim (IsDecided-cover old x) [
        | inr none ↦ inr (λ h. none h.0)
        | inl has ↦ elim (in_block_or_not n x) [
          | inl a ↦ inr (λ h. h.1 a)
          | inr out ↦ inl (has, out)
        ]
      ]

      pub cut_own : AreOwnBlocks new
      cut_own = own_from_members (Without Free n) dec (λ x h. own_fits old own_blocks x h.0) new cut_members

      pub cut_cover : (x : Address) → IsCoveredBy new x ↔ Without Free n x
      cut_cover = covers_from_members (Without Free n) dec (λ x h. own_fits old own_blocks x h.0) new cut_members

  module _ (n : Network) (u : IsNetwork n) (leased : (x : Address) → InBlock n x → ¬ (Free x)) where
    pub blocks_beside : AreBeside old n
    blocks_beside = record {
      apart = λ m k c d x a b. one_maximal Free 0 m k ((own_blocks m).0 c) ((own_blocks k).0 d) x a b;
      beside = λ m c. inr (λ x a b. leased x b (any_from_contains (λ z. InBlock z x) old m c a));
    }

    module _ (new : List Network) (joined : IsJoined old new n) where
      abbrev pub More : Address → Type 0
      More x = Free x ⊎ InBlock n x

      more_members : (m : Network) → Contains new m ↔ IsMaximal More 0 m
      more_members = joined_maximal Free (IsDecided-cover old) old new n own_blocks (λ x c. c) leased joined

      more_dec : IsDecided More
      more_dec x = elim (IsDecided-cover old x) [
        | inl has ↦ inl (inl has)
        | inr none ↦ elim (in_block_or_not n x) [
          | inl a ↦ inl (inr a)
          | inr out ↦ inr (λ h. elim h [ inl f ↦ none f | inr a ↦ out a ])
        ]
      ]

      more_fits : (x : Address) → More x → IsAddress x
      more_fits x (inl f) = own_fits old own_blocks x f
      more_fits x (inr a) = block_fits n u x a

      pub more_own : AreOwnBlocks new
      more_own = own_from_members More more_dec more_fits new more_members

      pub more_cover : (x : Address) → IsCoveredBy new x ↔ (Free x ⊎ InBlock n x)
      more_cover = covers_from_members More more_dec more_fits new more_members

    -- whether memory ran out or not
    module _ {E : Type 0} (new : List Network) where
      pub join_own : (r : Result ⊤ E) → OnOk r (IsJoined old new n) → OnErr r (HaveSameNetworks old new)
          → AreOwnBlocks new
      join_own (Ok done) joined same = more_own new joined
      join_own (Err e) joined same = same_own new same

      pub join_cover : (r : Result ⊤ E) → OnOk r (IsJoined old new n)
          → OnOk r ((x : Address) → IsCoveredBy new x ↔ (Free x ⊎ InBlock n x))
      join_cover (Ok done) joined = more_cover new joined
      join_cover (Err e) joined = tt

      pub join_same : (r : Result ⊤ E) → OnErr r (HaveSameNetworks old new)
          → OnErr r ((x : Address) → IsCoveredBy new x ↔ Free x)
      join_same (Ok done) same = tt
      join_same (Err e) same = same_cover new same
