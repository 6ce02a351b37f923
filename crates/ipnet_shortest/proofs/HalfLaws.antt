-- The half of a network that contains a block.
use Rattle.std.proofs.Common.{◌≡◌, ℕ, ◌+◌, ◌<◌, List, length, get_or, sym, ◌∙◌, subst, arith, inl, inr}
use Rattle.std.proofs.lemmas.Bool.{cases_lt}
use Rattle.ipnet_base.specs.Network.{Network, IsSubnetOf, IsTruncationOf}
use Rattle.ipnet_base.proofs.BlockLaws.{own, own_in}
use Rattle.ipnet_base.proofs.ListLaws.{at_place}
use Rattle.ipnet_base.proofs.NestingLaws.{subnet_from_own}
use Rattle.ipnet_shortest.specs.Halves.{IsHalfWith, AreLeading, IsWholeFamily}

pub half_of : (around block long half : Network) → IsSubnetOf block around → around.prefix_len < block.prefix_len
    → long ≡ record { family = block.family; number = block.number; prefix_len = around.prefix_len + 1 }
    → IsTruncationOf half long → IsHalfWith around block half
half_of around block long half within longer is of_long =
    let same : IsTruncationOf half wide = subst (IsTruncationOf half) is of_long in
    record {
      truncated = same.truncated;
      shorter = sym same.same_len;
      within = λ x a. subnet_from_own wide around (omega arith) (within (own block) (own_in block)) x
          (same.same_block.0 x a);
      holds = λ x a. same.same_block.1 x (subnet_from_own block wide (omega (arith, longer)) (own_in wide) x a);
    }
  where
    wide : Network
    wide = record { family = block.family; number = block.number; prefix_len = around.prefix_len + 1 }

pub whole_of : (network long whole : Network)
    → long ≡ record { family = network.family; number = network.number; prefix_len = 0 }
    → IsTruncationOf whole long → IsWholeFamily network whole
whole_of network long whole is of_long =
    let same : IsTruncationOf whole wide = subst (IsTruncationOf whole) is of_long in
    record {
      truncated = same.truncated;
      same_family = (same.same_block.0 (own whole) (own_in whole)).same_family;
      all = same.same_len;
    }
  where
    wide : Network
    wide = record { family = network.family; number = network.number; prefix_len = 0 }

-- ---- the blocks in a network, one after the other

module _ (blocks : List Network) (n b : Network) (i : ℕ) (inside : i < length blocks) (here : get_or blocks i b ≡ b)
    (so_far : (j : ℕ) (d : Network) → j < i → IsSubnetOf (get_or blocks j d) n) where
  pub leading_more : IsSubnetOf b n → (j : ℕ) (d : Network) → j < i + 1 → IsSubnetOf (get_or blocks j d) n
  leading_more sub j d lt = elim (cases_lt j i) [
    | inl before ↦ so_far j d before
    | inr at ↦
        let same : i ≡ j = omega (arith, at, lt) in
        subst (λ k. IsSubnetOf (get_or blocks k d) n) same
        (subst (λ m. IsSubnetOf m n) (sym here ∙ at_place blocks i b d inside) sub)
  ]

  pub leading_here : ¬ (IsSubnetOf b n) → AreLeading blocks n i
  leading_here out = record {
    within = omega (arith, inside);
    leading = so_far;
    next = λ d lt sub. out (subst (λ m. IsSubnetOf m n) (at_place blocks i d b inside ∙ here) sub);
  }
