-- Maximal blocks as exact and shortest covers: of every set of addresses that can be decided, and of ranges.
use Rattle.std.proofs.Common.{◌≡◌, ℕ, ◌-◌, ◌/◌, ◌^◌, ◌<◌, ◌≤◌, List, sym, ap, ◌∙◌, subst, arith}
use Rattle.std.proofs.Math.Nat.{div-one}
use Rattle.ipnet_base.specs.Address.{Family, Address, IsAddress, width, IsBetween}
use Rattle.ipnet_base.specs.Network.{Network, IsNetwork, InBlock}
use Rattle.ipnet_base.specs.Blocks.{IsCoveredBy, IsInside, AreMaximalBlocks, IsExactCover, IsShortestCover}
use Rattle.ipnet_base.proofs.BlockLaws.{own_in}
use Rattle.ipnet_base.proofs.ListLaws.{any_from_contains, all_from_members}
use Rattle.ipnet_base.proofs.ShortestLaws.{shortest, one_as_short}
use Rattle.ipnet_base.proofs.MaximalLaws.{maximal_above}
use Rattle.ipnet_base.proofs.DecidedLaws.{IsDecided, IsDecided-between}

-- maximal blocks that cover their set are its shortest cover
pub IsShortestCover-of_maximal : (InSet : Address → Type 0) (least : ℕ) (networks : List Network)
    → AreMaximalBlocks InSet least networks → IsExactCover InSet least networks
    → IsShortestCover InSet least networks
IsShortestCover-of_maximal InSet least networks blocks exact = record {
  exact = exact;
  shortest = λ cover other. shortest InSet least networks cover blocks other;
  only = λ cover other same. one_as_short InSet least networks cover blocks other same;
}

-- the network of one address
abbrev pub single : Address → Network
single x = record { family = x.family; number = x.number; prefix_len = width x.family }

-- and has no other address
single_has_one : (x y : Address) → InBlock (single x) y → y ≡ x
single_has_one x y a = λ i. record { family = a.same_family i; number = same i }
  where
    closed : width x.family - width x.family ≡ 0
    closed = omega arith

    same : y.number ≡ x.number
    same = sym (div-one y.number) ∙ subst (λ b. y.number / 2 ^ b ≡ x.number / 2 ^ b) closed a.same_prefix
        ∙ div-one x.number

-- the network of one address of a set lies in it
pub IsInside-single : (InSet : Address → Type 0) (least : ℕ) (x : Address) → IsAddress x → least ≤ width x.family
    → InSet x → IsInside InSet least (single x)
IsInside-single InSet least x fits short inside = record {
  network = record { address_fits = fits; prefix_fits = omega arith };
  truncated = λ y a. omega (arith, ap (λ z. z.number) (single_has_one x y a));
  long_enough = short;
  within = λ y a. subst InSet (sym (single_has_one x y a)) inside;
}

-- the maximal blocks cover a set of addresses whose families are wide enough
pub IsExactCover-of_maximal : (InSet : Address → Type 0) (least : ℕ) (networks : List Network) → IsDecided InSet
    → ((x : Address) → InSet x → IsAddress x × (least ≤ width x.family)) → AreMaximalBlocks InSet least networks
    → IsExactCover InSet least networks
IsExactCover-of_maximal InSet least networks decided fits blocks = record {
  valid = all_from_members IsNetwork networks (λ n c. ((blocks.members n).0 c).inside.network);
  long_enough = all_from_members (λ n. least ≤ n.prefix_len) networks
      (λ n c. ((blocks.members n).0 c).inside.long_enough);
  covers = λ x. (to x, from x);
}
  where
    to : (x : Address) → IsCoveredBy networks x → InSet x
    to x a = ((blocks.members a.1).0 (a.0, a.2, a.3)).inside.within x a.4

    from : (x : Address) → InSet x → IsCoveredBy networks x
    from x inside =
        let (n, max, sub) = maximal_above InSet least decided (single x)
        (IsInside-single InSet least x (fits x inside).0 (fits x inside).1 inside) in
        any_from_contains (λ k. InBlock k x) networks n ((blocks.members n).1 max) (sub x (own_in (single x)))

-- the maximal blocks of a range cover it, and no list of networks as long as they must be covers it by fewer
IsExactCover-of_range : (f : Family) (s e m : ℕ) (networks : List Network) → e < 2 ^ width f → m ≤ width f
    → AreMaximalBlocks (IsBetween f s e) m networks → IsExactCover (IsBetween f s e) m networks
IsExactCover-of_range f s e m networks fits short blocks =
    IsExactCover-of_maximal (IsBetween f s e) m networks (IsDecided-between f s e)
    (λ x b. let same : width x.family ≡ width f = ap width b.of_family in
    (omega (arith, fits, b.to_end, ap (λ w. 2 ^ w) same), omega (arith, short, same)))
    blocks

pub IsShortestCover-of_range : (f : Family) (s e m : ℕ) (networks : List Network) → e < 2 ^ width f → m ≤ width f
    → AreMaximalBlocks (IsBetween f s e) m networks → IsShortestCover (IsBetween f s e) m networks
IsShortestCover-of_range f s e m networks fits short blocks =
    IsShortestCover-of_maximal (IsBetween f s e) m networks blocks
    (IsExactCover-of_range f s e m networks fits short blocks)
