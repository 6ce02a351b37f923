-- The buckets of the index of an image of a table: their bounds, and the bucket of a network.
use Rattle.std.proofs.Common.{◌≡◌, ℕ, zero, suc, ◌+◌, ◌-◌, ◌*◌, ◌/◌, ◌%◌, ◌^◌, ◌<◌, ◌≤◌}
use Rattle.std.proofs.Common.{refl, sym, ap, ◌∙◌, subst, arith, inl, inr, le-leb}
use Rattle.std.proofs.lemmas.Bool.{cases_order, cases_lt, lt-leb}
use Rattle.std.proofs.lemmas.Nat.{one_shl, shl_below, shr_split, pow-add, pow_pos}
use Rattle.std.proofs.Math.Nat.{mul-le-mul_right, lt-div-mul-add, div-lt_iff_lt-mul, pow-le-pow_right}
use Rattle.ipnet_base.specs.Address.{IPv4, IPv6, family_index}
use Rattle.ipnet_base.specs.Network.{Network, IsBefore}
use Rattle.ipnet_base.specs.Stack.{IsBeforeOrEqual}
use Rattle.ipnet_base.proofs.NetworkLaws.{same_network}
use Rattle.ipnet.specs.NetworkOf.{ipv4_network_of, ipv6_network_of}
use Rattle.ipnet_routes.specs.TableImages.{index_size, bucket_start, IsInBucket}

-- one more than the greatest number of this many bits
pub one_bit : (b : ℕ) → b ≤ 20 → (1 * 2 ^ b) % 2 ^ 64 ≡ 2 ^ b
one_bit b few = one_shl b 64 (omega (arith, few))

pub few_buckets : (b : ℕ) → b ≤ 20 → 2 ^ b ≤ 1048576
few_buckets b few = pow-le-pow_right {n = 2} (omega arith) few

-- the first bits and the others are all bits
whole : (b w : ℕ) → b ≤ w → 2 ^ b * 2 ^ (w - b) ≡ 2 ^ w
whole b w few =
    let all : b + (w - b) ≡ w = omega (arith, few) in
    sym (pow-add 2 b (w - b)) ∙ ap (λ k. 2 ^ k) all

pub below_whole : (b bucket : ℕ) → b ≤ 20 → bucket < 2 ^ b → bucket * 2 ^ (32 - b) < 2 ^ 32
below_whole b bucket few l =
    let all : b + (32 - b) ≡ 32 = omega (arith, few) in
    subst (λ k. bucket * 2 ^ (32 - b) < 2 ^ k) all (shl_below bucket b (32 - b) l)

pub up_to_whole : (c i : ℕ) → c ≤ 20 → i ≤ 2 ^ c → i * 2 ^ (29 - c) ≤ 536870912
up_to_whole c i few le = omega (arith, mul-le-mul_right (2 ^ (29 - c)) le, whole c 29 (omega (arith, few)))

-- the number of entries
pub some_entries : (b c : ℕ) → 0 < b + c → index_size b c ≡ 2 ^ b + 2 ^ c + 1
unfolding index_size
some_entries zero zero some = absurd (omega (arith, some))
some_entries zero (suc c) some = refl
some_entries (suc b) c some = refl

pub no_entries : (b c : ℕ) → b + c ≡ 0 → 0 ≡ index_size b c
unfolding index_size
no_entries zero zero none = refl
no_entries zero (suc c) none = absurd (omega (arith, none))
no_entries (suc b) c none = absurd (omega (arith, none))

-- a bucket after the buckets of IPv4 is at most the last of IPv6
pub up_to_end : (b c bucket first : ℕ) → first ≡ 2 ^ b → bucket < index_size b c → bucket - first ≤ 2 ^ c
up_to_end b c bucket first e l = elim (cases_order 0 (b + c)) [
  | inl none ↦ absurd (omega (arith, l, no_entries b c (sym none)))
  | inr (inl some) ↦ omega (arith, e, l, some_entries b c some)
  | inr (inr wrong) ↦ absurd (omega (arith, wrong))
]

-- the first network of a bucket
pub start_ipv4 : (b c bucket : ℕ) → bucket < 2 ^ b
    → bucket_start b c bucket ≡ ipv4_network_of (bucket * 2 ^ (32 - b)) 0
unfolding bucket_start
start_ipv4 b c bucket l = rw (lt-leb (2 ^ b) bucket l)

pub start_ipv6 : (b c bucket : ℕ) → 2 ^ b ≤ bucket
    → bucket_start b c bucket ≡ ipv6_network_of ((2 ^ 29 + (bucket - 2 ^ b) * 2 ^ (29 - c)) * 2 ^ 96) 0
unfolding bucket_start
start_ipv6 b c bucket le = rw (le-leb (2 ^ b) bucket le)

-- a network with this number or a lower one and with the prefix length 0 is not after the network
at_most : (n k : Network) → k.family ≡ n.family → k.number ≤ n.number → k.prefix_len ≡ 0 → IsBeforeOrEqual k n
at_most n k family number len = elim (cases_order k.number n.number) [
  | inl same ↦ elim (cases_order k.prefix_len n.prefix_len) [
    | inl equal ↦ inl (same_network k n family same equal)
    | inr (inl shorter) ↦ inr (inr (family, inr (same, shorter)))
    | inr (inr longer) ↦ absurd (omega (arith, longer, len))
  ]
  | inr (inl less) ↦ inr (inr (family, inl less))
  | inr (inr more) ↦ absurd (omega (arith, more, number))
]

one_more : (j s : ℕ) → (j + 1) * s ≡ j * s + s
one_more j s = omega arith

-- the bucket of an IPv4 network
pub in_ipv4 : (b c : ℕ) (n : Network) → b ≤ 20 → index_size b c ≡ 2 ^ b + 2 ^ c + 1 → n.family ≡ IPv4
    → n.number < 2 ^ 32 → IsInBucket b c (n.number / 2 ^ (32 - b)) n
in_ipv4 b c n few size family fits = record {
  within = omega (arith, inside, size, pow_pos c);
  from = subst (λ z. IsBeforeOrEqual z n) (sym (start_ipv4 b c j inside))
      (at_most n (ipv4_network_of (j * s) 0) (sym family) low refl);
  below = elim (cases_lt (j + 1) (2 ^ b)) [
    | inl l ↦ subst (IsBefore n) (sym (start_ipv4 b c (j + 1) l))
        (inr (family, inl (omega (arith, high, one_more j s))))
    | inr ge ↦ subst (IsBefore n) (sym (start_ipv6 b c (j + 1) ge)) (inl (omega (arith, ap family_index family)))
  ];
}
  where
    s : ℕ
    s = 2 ^ (32 - b)

    j : ℕ
    j = n.number / s

    low : j * s ≤ n.number
    low = omega (arith, shr_split n.number (32 - b))

    high : n.number < j * s + s
    high = lt-div-mul-add (pow_pos (32 - b))

    inside : j < 2 ^ b
    inside = (div-lt_iff_lt-mul (pow_pos (32 - b))).1 (omega (arith, fits, whole b 32 (omega (arith, few))))

-- and of an IPv6 network in 2000::/3
pub in_ipv6 : (b c : ℕ) (n : Network) → c ≤ 20 → index_size b c ≡ 2 ^ b + 2 ^ c + 1 → n.family ≡ IPv6
    → 536870912 ≤ n.number / 79228162514264337593543950336
    → n.number / 79228162514264337593543950336 < 1073741824
    → IsInBucket b c (2 ^ b + (n.number / 79228162514264337593543950336 - 536870912) / 2 ^ (29 - c)) n
in_ipv6 b c n few size family least greatest = record {
  within = omega (arith, inside, size);
  from = subst (λ z. IsBeforeOrEqual z n) (sym (start (2 ^ b + i) i (omega arith) (omega arith)))
      (at_most n (ipv6_network_of ((536870912 + i * s) * 79228162514264337593543950336) 0) (sym family)
      (omega (arith, low, least)) refl);
  below = subst (IsBefore n) (sym (start (2 ^ b + i + 1) (i + 1) (omega arith) (omega arith)))
      (inr (family, inl (omega (arith, high, one_more i s, least))));
}
  where
    top : ℕ
    top = n.number / 79228162514264337593543950336

    s : ℕ
    s = 2 ^ (29 - c)

    i : ℕ
    i = (top - 536870912) / s

    low : i * s ≤ top - 536870912
    low = omega (arith, shr_split (top - 536870912) (29 - c))

    high : top - 536870912 < i * s + s
    high = lt-div-mul-add (pow_pos (29 - c))

    inside : i < 2 ^ c
    inside = (div-lt_iff_lt-mul (pow_pos (29 - c))).1
        (omega (arith, least, greatest, whole c 29 (omega (arith, few))))

    start : (bucket k : ℕ) → 2 ^ b ≤ bucket → bucket - 2 ^ b ≡ k
        → bucket_start b c bucket ≡ ipv6_network_of ((536870912 + k * s) * 79228162514264337593543950336) 0
    start bucket k ge e =
        start_ipv6 b c bucket ge
        ∙ ap (λ z. ipv6_network_of ((536870912 + z * s) * 79228162514264337593543950336) 0) e
