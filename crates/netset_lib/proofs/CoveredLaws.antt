-- The maximal networks of a set, and the addresses that they cover.
use Rattle.std.proofs.Common.{◌≡◌, ℕ, zero, suc, ◌/◌, ◌^◌, ◌≤◌, List, refl, sym, ap, ap₂}
use Rattle.std.proofs.Common.{subst, arith}
use Rattle.std.proofs.Common.{inl, inr}
use Rattle.std.proofs.lemmas.Bool.{cases_lt}
use Rattle.ipnet_base.specs.Address.{Address, IsAddress, width, address_at}
use Rattle.ipnet_base.specs.Blocks.{IsInside, IsMaximal, AreMaximalBlocks, IsCoveredBy}
use Rattle.ipnet_base.specs.Network.{Network, IsNetwork, IsTruncated, InBlock, IsSubnetOf, IsSupernetOf, host_bits}
use Rattle.ipnet_base.specs.Network.{truncation}
use Rattle.ipnet_base.proofs.BlockLaws.{own, own_in}
use Rattle.ipnet_base.proofs.DecidedLaws.{IsDecided-cover}
use Rattle.ipnet_base.proofs.ListLaws.{any_from_contains}
use Rattle.ipnet_base.proofs.NestingLaws.{nested}
use Rattle.ipnet_base.proofs.NetworkLaws.{same_from_block, IsTruncated-truncation, IsNetwork-truncation}
use Rattle.ipnet_base.proofs.NetworkLaws.{in_truncation}
use Rattle.ipnet_base.proofs.NetworkLaws.{truncation_in}
use Rattle.ipnet_base.proofs.SupernetLaws.{supernet_below}

-- ---- when a network is maximal

module _ (InSet : Address → Type 0) (n : Network) (u : IsNetwork n) (t : IsTruncated n)
    (within : (x : Address) → InBlock n x → InSet x) where
  inside : IsInside InSet 0 n
  inside = record { network = u; truncated = t; long_enough = omega arith; within = within }

  -- a larger network that contains it has more host bits
  larger : (k : Network) → IsInside InSet 0 k → IsSubnetOf n k → host_bits k ≤ host_bits n → k ≡ n
  larger k i sub le =
      same_from_block k n i.network u i.truncated t (nested k n (own n) (sub (own n) (own_in n)) (own_in n) le, sub)

  pub largest_whole : n.prefix_len ≡ 0 → IsMaximal InSet 0 n
  largest_whole none = record {
    inside = inside;
    largest = λ k i sub. larger k i sub
        (omega (arith, ap width (sub (own n) (own_in n)).same_family));
  }

  pub largest_below : (s : Network) → IsSupernetOf s n → ¬ ((x : Address) → InBlock s x → InSet x)
      → IsMaximal InSet 0 n
  largest_below s p out = record {
    inside = inside;
    largest = λ k i sub. elim (cases_lt (host_bits n) (host_bits k)) [
      | inl lt ↦ absurd (out (λ x a. i.within x (supernet_below s n k u p sub lt x a)))
      | inr le ↦ larger k i sub le
    ];
  }

-- ---- each address of a set lies in one of its maximal networks

-- the network of one address
abbrev pub single : Address → Network
single x = record { family = x.family; number = x.number; prefix_len = width x.family }

in_single : (x y : Address) → InBlock (single x) y → y ≡ x
in_single x y a =
    let e : host_bits (single x) ≡ 0 = omega arith in
    let same : y.number / 2 ^ 0 ≡ x.number / 2 ^ 0 =
    subst (λ b. y.number / 2 ^ b ≡ x.number / 2 ^ b) e a.same_prefix in
    let number : y.number ≡ x.number = omega (arith, same) in
    ap₂ address_at a.same_family number

pub single_inside : (InSet : Address → Type 0) (x : Address) → IsAddress x → InSet x → IsInside InSet 0 (single x)
single_inside InSet x fits h = record {
  network = record { address_fits = fits; prefix_fits = omega arith };
  truncated = λ y a. let e = in_single x y a in omega (arith, ap (λ z. z.number) e);
  long_enough = omega arith;
  within = λ y a. subst InSet (sym (in_single x y a)) h;
}

-- the network of this length that has the address
abbrev above : Address → ℕ → Network
above x p = truncation (record { family = x.family; number = x.number; prefix_len = p })

module _ (x : Address) (fits : IsAddress x) where
  above_network : (p : ℕ) → p ≤ width x.family → IsNetwork (above x p)
  above_network p le =
      IsNetwork-truncation (record { family = x.family; number = x.number; prefix_len = p })
      (record { address_fits = fits; prefix_fits = le })

  above_has : (p : ℕ) → InBlock (above x p) x
  above_has p =
      let n : Network = record { family = x.family; number = x.number; prefix_len = p } in
      in_truncation n x (own_in n)

  above_truncated : (p : ℕ) → IsTruncated (above x p)
  above_truncated p = IsTruncated-truncation (record { family = x.family; number = x.number; prefix_len = p })

  above_supernet : (p : ℕ) → suc p ≤ width x.family → IsSupernetOf (above x p) (above x (suc p))
  above_supernet p le = record {
    network = above_network p (omega (arith, le));
    truncated = above_truncated p;
    shorter = omega arith;
    contains = nested (above x (suc p)) (above x p) x (above_has (suc p)) (above_has p) (omega (arith, le));
  }

  module _ (InSet : Address → Type 0) (networks : List Network) (h : AreMaximalBlocks InSet 0 networks)
      (not : ¬ (IsCoveredBy networks x)) where
    no_maximal : (p : ℕ) → IsMaximal InSet 0 (above x p) → ⊥
    no_maximal p m = not (any_from_contains (λ n. InBlock n x) networks (above x p) ((h.members (above x p)).1 m)
        (above_has p))

    none_inside : (p : ℕ) → p ≤ width x.family → ((y : Address) → InBlock (above x p) y → InSet y) → ⊥
    none_inside zero le within =
        no_maximal zero (largest_whole InSet (above x zero) (above_network zero le) (above_truncated zero) within refl)
    none_inside (suc p) le within =
        no_maximal (suc p)
        (largest_below InSet (above x (suc p)) (above_network (suc p) le) (above_truncated (suc p)) within (above x p)
        (above_supernet p le) (λ all. none_inside p (omega (arith, le)) all))

pub member_is_covered : (InSet : Address → Type 0) (networks : List Network) → AreMaximalBlocks InSet 0 networks
    → (x : Address) → IsAddress x → InSet x → IsCoveredBy networks x
member_is_covered InSet networks h x fits there =
    elim (IsDecided-cover networks x) [
      | inl covered ↦ covered
      | inr not ↦
          absurd (none_inside x fits InSet networks h not (width x.family) (omega arith)
          (λ y a. subst InSet (sym (in_single x y (same_block y a))) there))
    ]
  where
    same_block : (y : Address) → InBlock (above x (width x.family)) y → InBlock (single x) y
    same_block y a = truncation_in (single x) y a
