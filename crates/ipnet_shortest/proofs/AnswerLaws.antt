-- From the best cover of blocks to the best cover of a set that avoids another set.
use Rattle.std.proofs.Common.{◌≡◌, ℕ, ◌^◌, ◌<◌, ◌≤◌, ◌⊎◌, ◌↔◌, inl, inr}
use Rattle.std.proofs.Common.{List, [], ◌∷◌, length, All, Contains}
use Rattle.std.proofs.Common.{refl, sym, ap, ◌∙◌, subst, arith}
use Rattle.std.proofs.Math.Nat.{div-eq_of_lt}
use Rattle.std.proofs.lemmas.Bool.{cases_lt}
use Rattle.ipnet_base.specs.Address.{Address, IsAddress, width, family_index}
use Rattle.ipnet_base.specs.Network.{Network, IsNetwork, InBlock, IsSubnetOf, IsBefore, host_bits}
use Rattle.ipnet_base.specs.Blocks.{IsCoveredBy, IsMaximal, AreMaximalBlocks, IsExactCover}
use Rattle.ipnet_base.proofs.BlockLaws.{own, own_in}
use Rattle.ipnet_base.proofs.CoverLaws.{covered_fits, covering_member}
use Rattle.ipnet_base.proofs.DecidedLaws.{IsDecided}
use Rattle.ipnet_base.proofs.ExactCoverLaws.{IsExactCover-of_maximal, IsShortestCover-of_maximal}
use Rattle.ipnet_base.proofs.ListLaws.{all_from_members, pairs_from_members, contains_here}
use Rattle.ipnet_base.proofs.UniqueLaws.{maximal_blocks_apart}
use Rattle.ipnet_sets.specs.Members.{IsCountOf}
use Rattle.ipnet_shortest.specs.Covers.{IsAdded, IsCoverWithin, IsBestCover, HasCoverWithin}
use Rattle.ipnet_shortest.specs.Covers.{IsCoverAdding, IsFewestCover}
use Rattle.ipnet_shortest.specs.Halves.{AreBlocksIn, IsWholeFamily}
use Rattle.ipnet_shortest.specs.PartCovers.{IsAllowedCover, IsBestOf}
use Rattle.ipnet_shortest.proofs.CountLaws.{same_count, count_of_none, counted_none}

-- ---- one set in place of another with the same addresses

module _ (S T Never May : Address → Type 0) (same : (x : Address) → S x ↔ T x)
    (allowed : (x : Address) → IsAddress x → May x ↔ ¬ (Never x)) where
  allowed_cover : (networks : List Network) → All IsNetwork networks → ((x : Address) → T x → IsCoveredBy networks x)
      → ((x : Address) → IsCoveredBy networks x → ¬ (Never x)) → IsAllowedCover S May networks
  allowed_cover networks valid covers avoids = record {
    valid = valid;
    covers = λ x s. covers x ((same x).0 s);
    allowed = λ x c. (allowed x (covered_fits networks valid x c)).1 (avoids x c);
  }

  to_allowed : (limit : ℕ) (networks : List Network) → IsCoverWithin limit T Never networks
      → IsAllowedCover S May networks
  to_allowed limit networks h = allowed_cover networks h.valid h.covers h.avoids

  from_allowed : (limit : ℕ) (networks : List Network) → IsAllowedCover S May networks → length networks ≤ limit
      → IsCoverWithin limit T Never networks
  from_allowed limit networks h few = record {
    valid = h.valid;
    few = few;
    covers = λ x t. h.covers x ((same x).1 t);
    avoids = λ x c. (allowed x (covered_fits networks h.valid x c)).0 (h.allowed x c);
  }

  same_added : (networks : List Network) (x : Address) → IsAdded S networks x ↔ IsAdded T networks x
  same_added networks x =
      (λ a. (a.0, λ t. a.1 ((same x).1 t)), λ a. (a.0, λ s. a.1 ((same x).0 s)))

  back_added : (networks : List Network) (n : ℕ) → IsCountOf (IsAdded T networks) n → IsCountOf (IsAdded S networks) n
  back_added networks n = same_count (IsAdded T networks) (IsAdded S networks) n
      (λ x. ((same_added networks x).1, (same_added networks x).0))

  pub best_from : (limit : ℕ) (networks : List Network) → IsBestOf S May limit 0 networks
      → IsBestCover limit T Never networks
  best_from limit networks h = record {
    cover = from_allowed limit networks h.cover h.few;
    added = h.added;
    are_added = same_count (IsAdded S networks) (IsAdded T networks) h.added (same_added networks) h.are_added;
    fewest_added = λ others more c count. elim h.within [
      | inl none ↦ omega (arith, none)
      | inr least ↦ least others more (to_allowed limit others c) c.few (back_added others more count)
    ];
    fewest_networks = λ others c count. h.fewest_networks others h.added (to_allowed limit others c) c.few
        (back_added others h.added count) (inr (omega arith));
  }

  module _ (spare limit : ℕ) (blocks : List Network) (exact : IsCoverAdding spare T Never blocks 0)
      (short : length blocks ≤ limit) where
    to_adding : (networks : List Network) (added : ℕ) → IsCoverAdding spare T Never networks added
        → IsAllowedCover S May networks
    to_adding networks added h = allowed_cover networks h.valid h.covers h.avoids

    pub fewest_from : (networks : List Network) → IsBestOf S May limit spare networks
        → IsFewestCover spare T Never networks
    fewest_from networks h = record {
      added = h.added;
      cover = record {
        valid = h.cover.valid;
        covers = λ x t. h.cover.covers x ((same x).1 t);
        avoids = λ x c. (allowed x (covered_fits networks h.cover.valid x c)).0 (h.cover.allowed x c);
        are_added = same_count (IsAdded S networks) (IsAdded T networks) h.added (same_added networks) h.are_added;
        few = elim h.within [
          | inl le ↦ le
          | inr least ↦ omega (
            arith,
            least blocks 0 (to_adding blocks 0 exact) short (back_added blocks 0 exact.are_added),
          )
        ];
      };
      fewest_networks = λ others more c. elim (cases_lt limit (length others)) [
        | inl over ↦ omega (arith, over, h.few)
        | inr fits ↦ h.fewest_networks others more (to_adding others more c) (omega (arith, fits))
            (back_added others more c.are_added) (inl c.few)
      ];
      fewest_added = λ others more c few. h.fewest_added others more (to_adding others more c) few
          (back_added others more c.are_added);
    }

    -- the blocks are a cover
    pub some_from : ((networks : List Network) → IsAllowedCover S May networks → limit < length networks) → ⊥
    some_from none = omega (arith, none blocks (to_adding blocks 0 exact), short)

  pub none_from : (limit : ℕ)
      → ((networks : List Network) → IsAllowedCover S May networks → limit < length networks)
      → ¬ (HasCoverWithin limit T Never)
  none_from limit none (networks, h) = omega (arith, none networks (to_allowed limit networks h), h.few)

-- ---- the blocks of a set

module _ (S Never : Address → Type 0) (decided : IsDecided S) (fits : (x : Address) → S x → IsAddress x)
    (blocks : List Network) (h : AreMaximalBlocks S 0 blocks) where
  exact : IsExactCover S 0 blocks
  exact = IsExactCover-of_maximal S 0 blocks decided (λ x s. (fits x s, omega arith)) h

  pub covered_same : (x : Address) → IsCoveredBy blocks x ↔ S x
  covered_same x = exact.covers x

  -- no list of other networks with exactly these addresses is shorter
  shortest : (others : List Network) → All IsNetwork others → ((x : Address) → S x → IsCoveredBy others x)
      → IsCountOf (IsAdded S others) 0 → length blocks ≤ length others
  shortest others valid covers count = (IsShortestCover-of_maximal S 0 blocks h exact).shortest others (record {
    valid = valid;
    long_enough = λ i d lt. omega arith;
    covers = λ x. (
      λ a. elim (decided x) [ inl s ↦ s | inr lacks ↦ absurd (counted_none (IsAdded S others) x count (a, lacks)) ],
      λ s. covers x s,
    );
  })

  none_added : IsCountOf (IsAdded S blocks) 0
  none_added = count_of_none (IsAdded S blocks) (λ x a. a.1 ((exact.covers x).0 a.0))

  -- within the limit they are the best cover
  pub exact_best : (limit : ℕ) → ((x : Address) → S x → ¬ (Never x)) → length blocks ≤ limit
      → IsBestCover limit S Never blocks
  exact_best limit apart few = record {
    cover = record {
      valid = exact.valid;
      few = few;
      covers = λ x s. (exact.covers x).1 s;
      avoids = λ x c. apart x ((exact.covers x).0 c);
    };
    added = 0;
    are_added = none_added;
    fewest_added = λ others more c count. omega arith;
    fewest_networks = λ others c count. shortest others c.valid c.covers count;
  }

  -- they add no address
  pub exact_adding : (spare : ℕ) → ((x : Address) → S x → ¬ (Never x)) → IsCoverAdding spare S Never blocks 0
  exact_adding spare apart = record {
    valid = exact.valid;
    covers = λ x s. (exact.covers x).1 s;
    avoids = λ x c. apart x ((exact.covers x).0 c);
    are_added = none_added;
    few = omega arith;
  }

  pub exact_fewest : (spare : ℕ) → ((x : Address) → S x → ¬ (Never x)) → (spare ≡ 0) ⊎ (length blocks ≡ 0)
      → IsFewestCover spare S Never blocks
  exact_fewest spare apart which = record {
    added = 0;
    cover = exact_adding spare apart;
    fewest_networks = λ others more c. elim which [
      | inl none ↦ shortest others c.valid c.covers
          (subst (IsCountOf (IsAdded S others)) (omega (arith, none, c.few)) c.are_added)
      | inr empty ↦ omega (arith, empty)
    ];
    fewest_added = λ others more c few. omega arith;
  }

  -- and no network is too few for them
  pub none_is_few : 0 < length blocks → ¬ (HasCoverWithin 0 S Never)
  none_is_few some (networks, c) =
      go blocks refl some
    where
      go : (list : List Network) → list ≡ blocks → 0 < length list → ⊥
      go [] e lt = omega (arith, lt)
      go (n ∷ ns) e lt =
          let m : IsMaximal S 0 n = (h.members n).0 (subst (λ z. Contains z n) e (contains_here n ns)) in
          let a = c.covers (own n) (m.inside.within (own n) (own_in n)) in
          omega (arith, c.few, (covering_member networks (own n) a).1)

  -- they are in order in the whole family
  pub blocks_in : (network whole : Network) → IsWholeFamily network whole → IsNetwork whole
      → ((x : Address) → S x → InBlock whole x) → 0 < length blocks → AreBlocksIn blocks whole
  blocks_in network whole w u inside some = record {
    truncated = w.truncated;
    some = some;
    within = all_from_members (λ n. IsSubnetOf n whole) blocks
        (λ n c x a. inside x (((h.members n).0 c).inside.within x a));
    disjoint = maximal_blocks_apart S 0 blocks h;
    ascending = pairs_from_members IsBefore (λ n k. n.number ≤ k.number) blocks order h.ascending;
  }
    where
      of_whole : (n : Network) → Contains blocks n → n.family ≡ whole.family
      of_whole n c = (inside (own n) (((h.members n).0 c).inside.within (own n) (own_in n))).same_family

      order : (n k : Network) → Contains blocks n → Contains blocks k → IsBefore n k → n.number ≤ k.number
      order n k c d (inl lt) =
          absurd (omega (arith, lt, ap family_index (of_whole n c), ap family_index (of_whole k d)))
      order n k c d (inr (e, inl lt)) = omega (arith, lt)
      order n k c d (inr (e, inr same)) = omega (arith, same.0)

-- every valid address of the family is in a network of prefix length 0
pub in_whole : (network whole : Network) → IsWholeFamily network whole → IsNetwork whole → (x : Address) → IsAddress x
    → x.family ≡ network.family → InBlock whole x
in_whole network whole w u x fits e =
    let f : x.family ≡ whole.family = e ∙ sym w.same_family in
    let bits : host_bits whole ≡ width whole.family = omega (arith, w.all) in
    record {
      same_family = f;
      same_prefix = div-eq_of_lt (subst (λ z. x.number < 2 ^ z) (ap width f ∙ sym bits) fits)
          ∙ sym (div-eq_of_lt (subst (λ z. whole.number < 2 ^ z) (sym bits) u.address_fits));
    }
