-- Networks are equal by their parts and, if they are truncated, by their blocks; truncations.
use Rattle.std.proofs.Common.{◌≡◌, ◌*◌, ◌/◌, ◌^◌, ◌↔◌, refl, sym, ap, ◌∙◌, subst, arith}
use Rattle.ipnet_base.specs.Address.{width}
use Rattle.ipnet_base.specs.Network.{Network, IsNetwork, host_bits, InBlock, HaveSameBlock, IsTruncated, IsTruncationOf}
use Rattle.ipnet_base.specs.Network.{truncation, first_of, IsSubnetOf}
use Rattle.ipnet_base.proofs.PrefixLaws.{block_from, first_in_block}
use Rattle.ipnet_base.proofs.BlockLaws.{at, own, own_in, first_in}
use Rattle.ipnet_base.proofs.NestingLaws.{bits_from_subnet}

-- networks of the same parts are equal
pub same_network : (n k : Network) → n.family ≡ k.family → n.number ≡ k.number → n.prefix_len ≡ k.prefix_len → n ≡ k
same_network n k f a l = λ i. record { family = f i; number = a i; prefix_len = l i }

-- networks of one family with as many open bits have one length
pub same_len_from_bits : (n k : Network) → IsNetwork n → IsNetwork k → n.family ≡ k.family → host_bits n ≡ host_bits k
    → n.prefix_len ≡ k.prefix_len
same_len_from_bits n k u v f e = omega (arith, e, ap width f, u.prefix_fits, v.prefix_fits)

-- a truncated network's own number is the first
pub number_from_truncated : (n : Network) → IsTruncated n → n.number ≡ first_of n
number_from_truncated n t =
    omega (arith, t (at n (first_of n)) (first_in n), block_from (host_bits n) n.number n.number refl)

pub truncated_from_number : (n : Network) → n.number ≡ first_of n → IsTruncated n
truncated_from_number n e x h = omega (arith, block_from (host_bits n) x.number n.number h.same_prefix)

-- truncated networks with equal blocks are equal
pub same_from_block : (n k : Network) → IsNetwork n → IsNetwork k → IsTruncated n → IsTruncated k → HaveSameBlock n k
    → n ≡ k
same_from_block n k u v s t h =
    let there : InBlock k (own n) = h.0 (own n) (own_in n) in
    let back : InBlock n (own k) = h.1 (own k) (own_in k) in
    let bits : host_bits n ≡ host_bits k = omega (arith, bits_from_subnet n k h.0, bits_from_subnet k n h.1) in
    same_network n k there.same_family
    (omega (arith, t (own n) there, s (own k) back))
    (same_len_from_bits n k u v there.same_family bits)

-- a truncation is truncated, is a network, and has the block that it is made from
pub IsTruncated-truncation : (n : Network) → IsTruncated (truncation n)
IsTruncated-truncation n =
    truncated_from_number (truncation n) (ap (λ q. q * 2 ^ host_bits n) (sym (first_in_block (host_bits n) n.number)))

pub IsNetwork-truncation : (n : Network) → IsNetwork n → IsNetwork (truncation n)
IsNetwork-truncation n h =
    record {
      address_fits = omega (arith, h.address_fits, block_from (host_bits n) n.number n.number refl);
      prefix_fits = h.prefix_fits;
    }

pub truncation_in : (n : Network) → IsSubnetOf (truncation n) n
truncation_in n x h =
    record { same_family = h.same_family; same_prefix = h.same_prefix ∙ first_in_block (host_bits n) n.number }

pub in_truncation : (n : Network) → IsSubnetOf n (truncation n)
in_truncation n x h =
    record { same_family = h.same_family; same_prefix = h.same_prefix ∙ sym (first_in_block (host_bits n) n.number) }

-- blocks contain each other if and only if the truncations are equal
pub same_block_iff_same_truncation : (n k : Network) → IsNetwork n → IsNetwork k
    → HaveSameBlock n k ↔ (truncation n ≡ truncation k)
same_block_iff_same_truncation n k u v = (to, from)
  where
    to : HaveSameBlock n k → truncation n ≡ truncation k
    to h = same_from_block (truncation n) (truncation k) (IsNetwork-truncation n u) (IsNetwork-truncation k v)
        (IsTruncated-truncation n) (IsTruncated-truncation k)
        (λ x a. in_truncation k x (h.0 x (truncation_in n x a)), λ x a. in_truncation n x (h.1 x (truncation_in k x a)))

    from : truncation n ≡ truncation k → HaveSameBlock n k
    from e = (
      λ x a. truncation_in k x (subst (λ m. InBlock m x) e (in_truncation n x a)),
      λ x a. truncation_in n x (subst (λ m. InBlock m x) (sym e) (in_truncation k x a)),
    )

-- the truncation by its formula is the truncated network with the same block and length, and no other is
pub IsTruncationOf-truncation : (n : Network) → IsNetwork n → IsTruncationOf (truncation n) n
IsTruncationOf-truncation n u = record {
  network = IsNetwork-truncation n u;
  truncated = IsTruncated-truncation n;
  same_len = refl;
  same_block = (truncation_in n, in_truncation n);
}

pub truncation_from_relation : (t n : Network) → IsTruncationOf t n → t ≡ truncation n
truncation_from_relation t n h = same_network t (truncation n) there.same_family number h.same_len
  where
    there : InBlock n (own t)
    there = h.same_block.0 (own t) (own_in t)

    bits : host_bits t ≡ host_bits n
    bits = omega (arith, ap width there.same_family, h.same_len)

    number : t.number ≡ first_of n
    number =
        number_from_truncated t h.truncated ∙ ap (λ b. t.number / 2 ^ b * 2 ^ b) bits
        ∙ ap (λ q. q * 2 ^ host_bits n) there.same_prefix

-- truncated twice is truncated once, and a truncated network is its own truncation
pub truncation_twice : (n : Network) → truncation (truncation n) ≡ truncation n
truncation_twice n =
    same_network (truncation (truncation n)) (truncation n) refl
    (ap (λ q. q * 2 ^ host_bits n) (first_in_block (host_bits n) n.number)) refl

pub truncation_of_truncated : (n : Network) → IsTruncated n → truncation n ≡ n
truncation_of_truncated n t = same_network (truncation n) n refl (sym (number_from_truncated n t)) refl
