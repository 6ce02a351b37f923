-- Proofs of what the private trait `Net` requires of each type: a value represents a valid network, each network has at
-- most one value, and values are ordered as networks. They are in specs/ because the members of `impl Net` name them,
-- and a `ghost use` cannot name proofs/ of its own crate.
-- Only private contracts use these.
use Rattle.std.proofs.Common.{◌≡◌, ℕ, ◌+◌, ◌*◌, ◌/◌, ◌%◌, ◌^◌, ◌<◌, ◌≤◌, ◌⊎◌, inl, inr, refl, sym, ap, ap₂, ◌∙◌}
use Rattle.std.proofs.Common.{subst, arith, Less, nat_cmp, lt-ltb}
use Rattle.std.specs.Coded.{le_prop}
use Rattle.std.specs.Ordering.{ordering_then}
use Rattle.std.proofs.Math.Nat.{div-add-mod}
use Rattle.std.proofs.lemmas.Bool.{cases_order}
use Rattle.std.proofs.lemmas.Bool.Decides.{nat_tests}
use Rattle.ipnet_base.specs.Network.{IsNetwork, IsBefore}
use Rattle.ipnet.specs.declared.net.IpNet.{IpNet}
use Rattle.ipnet.specs.declared.net.IpNet.TheVariants as Ip
use Rattle.ipnet.specs.declared.net.ipv4_net.Ipv4Net.{Ipv4Net}
use Rattle.ipnet.specs.declared.net.ipv6_net.Ipv6Net.{Ipv6Net}
use Rattle.ipnet.specs.NetworkOf.{ipv4_network, ipv6_network, ip_network}

-- The network of a value is valid: the number has at most `width` bits, and the prefix is not longer.
pub ipv4_valid : (n : Ipv4Net) → IsNetwork (ipv4_network n)
ipv4_valid n = record { address_fits = omega (arith, n.word_fits); prefix_fits = n.prefix_fits }

-- The network of a value is valid.
pub ipv6_valid : (n : Ipv6Net) → IsNetwork (ipv6_network n)
ipv6_valid n = record { address_fits = omega (arith, n.high_fits, n.low_fits); prefix_fits = n.prefix_fits }

-- The network of a value is valid.
pub ip_valid : (n : IpNet) → IsNetwork (ip_network n)
ip_valid (Ip.V4 n) = ipv4_valid n
ip_valid (Ip.V6 n) = ipv6_valid n

-- Values with equal fields are equal, because a bound has only one proof.
abbrev ipv4_of : (w : ℕ) → w < 2 ^ 64 → w % 2 ^ 32 ≤ 32 → Ipv4Net
ipv4_of w h k = record { word = w; word_fits = h; prefix_fits = k }

ipv4_same : (v w : ℕ) → v ≡ w → (h : v < 2 ^ 64) (k : v % 2 ^ 32 ≤ 32) (h' : w < 2 ^ 64) (k' : w % 2 ^ 32 ≤ 32)
    → ipv4_of v h k ≡ ipv4_of w h' k'
ipv4_same v w e h k =
    let at : (h' : v < 2 ^ 64) (k' : v % 2 ^ 32 ≤ 32) → ipv4_of v h k ≡ ipv4_of v h' k' =
    λ h' k' i. ipv4_of v (le_prop h h' i) (le_prop k k' i) in
    subst (λ m. (h' : m < 2 ^ 64) (k' : m % 2 ^ 32 ≤ 32) → ipv4_of v h k ≡ ipv4_of m h' k') e at

-- Two words with equal halves are equal.
same_word : (v w : ℕ) → v / 2 ^ 32 ≡ w / 2 ^ 32 → v % 2 ^ 32 ≡ w % 2 ^ 32 → v ≡ w
same_word v w e f = sym (div-add-mod v (2 ^ 32)) ∙ ap₂ (λ a b. 2 ^ 32 * a + b) e f ∙ div-add-mod w (2 ^ 32)

-- Two values of the same network are equal.
pub ipv4_one_to_one : (x y : Ipv4Net) → ipv4_network x ≡ ipv4_network y → x ≡ y
ipv4_one_to_one x y e =
    ipv4_same x.word y.word (same_word x.word y.word (ap (λ n. n.number) e) (ap (λ n. n.prefix_len) e)) x.word_fits
    x.prefix_fits y.word_fits y.prefix_fits

abbrev ipv6_of : (a b p : ℕ) → a < 2 ^ 64 → b < 2 ^ 64 → p ≤ 128 → Ipv6Net
ipv6_of a b p h l k = record { high = a; low = b; prefix_len = p; high_fits = h; low_fits = l; prefix_fits = k }

ipv6_same : (a b c d p q : ℕ) → a ≡ c → b ≡ d → p ≡ q
    → (h : a < 2 ^ 64) (l : b < 2 ^ 64) (k : p ≤ 128) (h' : c < 2 ^ 64) (l' : d < 2 ^ 64) (k' : q ≤ 128)
    → ipv6_of a b p h l k ≡ ipv6_of c d q h' l' k'
ipv6_same a b c d p q e f g h l k =
    let at : (h' : a < 2 ^ 64) (l' : b < 2 ^ 64) (k' : p ≤ 128) → ipv6_of a b p h l k ≡ ipv6_of a b p h' l' k' =
    λ h' l' k' i. ipv6_of a b p (le_prop h h' i) (le_prop l l' i) (le_prop k k' i) in
    let at_c : (h' : c < 2 ^ 64) (l' : b < 2 ^ 64) (k' : p ≤ 128) → ipv6_of a b p h l k ≡ ipv6_of c b p h' l' k' =
    subst (λ m. (h' : m < 2 ^ 64) (l' : b < 2 ^ 64) (k' : p ≤ 128) → ipv6_of a b p h l k ≡ ipv6_of m b p h' l' k')
    e at in
    let at_d : (h' : c < 2 ^ 64) (l' : d < 2 ^ 64) (k' : p ≤ 128) → ipv6_of a b p h l k ≡ ipv6_of c d p h' l' k' =
    subst (λ m. (h' : c < 2 ^ 64) (l' : m < 2 ^ 64) (k' : p ≤ 128) → ipv6_of a b p h l k ≡ ipv6_of c m p h' l' k')
    f at_c in
    subst (λ m. (h' : c < 2 ^ 64) (l' : d < 2 ^ 64) (k' : m ≤ 128) → ipv6_of a b p h l k ≡ ipv6_of c d m h' l' k') g
    at_d

-- Two values of the same network are equal.
pub ipv6_one_to_one : (x y : Ipv6Net) → ipv6_network x ≡ ipv6_network y → x ≡ y
ipv6_one_to_one x y e =
    let number : x.high * 2 ^ 64 + x.low ≡ y.high * 2 ^ 64 + y.low = ap (λ n. n.number) e in
    ipv6_same x.high x.low y.high y.low x.prefix_len y.prefix_len
    (omega (arith, x.low_fits, y.low_fits)) (omega (arith, x.low_fits, y.low_fits)) (ap (λ n. n.prefix_len) e)
    x.high_fits x.low_fits x.prefix_fits y.high_fits y.low_fits y.prefix_fits

pub ip_one_to_one : (x y : IpNet) → ip_network x ≡ ip_network y → x ≡ y
ip_one_to_one (Ip.V4 x) (Ip.V4 y) e = ap Ip.V4 (ipv4_one_to_one x y e)
ip_one_to_one (Ip.V4 x) (Ip.V6 y) e = let apart = ap (λ n. n.family) e in cc
ip_one_to_one (Ip.V6 x) (Ip.V4 y) e = let apart = ap (λ n. n.family) e in cc
ip_one_to_one (Ip.V6 x) (Ip.V6 y) e = ap Ip.V6 (ipv6_one_to_one x y e)

-- The numbers are compared first, and then the lengths.
cmp_less : (a b p q : ℕ) → (a < b) ⊎ ((a ≡ b) × (p < q)) → ordering_then (nat_cmp a b) (nat_cmp p q) ≡ Less
cmp_less a b p q (inl h) = rw (lt-ltb a b h) refl
cmp_less a b p q (inr h) = grind (arith, nat_tests)

-- Numbers are compared by their upper halves first, then by their lower halves.
halves_less : (a b c d p q : ℕ) → b < 2 ^ 64 → d < 2 ^ 64 → (a * 2 ^ 64 + b < c * 2 ^ 64 + d)
    ⊎ ((a * 2 ^ 64 + b ≡ c * 2 ^ 64 + d) × (p < q))
    → ordering_then (nat_cmp a c) (ordering_then (nat_cmp b d) (nat_cmp p q)) ≡ Less
halves_less a b c d p q l m h = elim (cases_order a c) [
  | inl same ↦ let low : (b < d) ⊎ ((b ≡ d) × (p < q)) =
      elim h [ inl lt ↦ inl (omega arith) | inr k ↦ inr (omega (arith, k.0), k.1) ] in
      let rest : ordering_then (nat_cmp b d) (nat_cmp p q) ≡ Less = cmp_less b d p q low in
      grind (arith, nat_tests)
  | inr (inl lt) ↦ rw (lt-ltb a c lt) refl
  | inr (inr gt) ↦ absurd (elim h [ inl lt ↦ omega arith | inr k ↦ omega (arith, k.0) ])
]

-- Words are compared by their upper halves first, then by their lower halves.
word_less : (v w : ℕ) → (v / 2 ^ 32 < w / 2 ^ 32) ⊎ ((v / 2 ^ 32 ≡ w / 2 ^ 32) × (v % 2 ^ 32 < w % 2 ^ 32)) → v < w
word_less v w (inl h) = omega (arith, h)
word_less v w (inr h) = omega (arith, h.0, h.1)

-- If a network comes before another, so does its value.
pub ipv4_in_order : (x y : Ipv4Net) → IsBefore (ipv4_network x) (ipv4_network y) → nat_cmp x.word y.word ≡ Less
ipv4_in_order x y (inl h) = absurd (omega (arith, h))
ipv4_in_order x y (inr h) = rw (lt-ltb x.word y.word (word_less x.word y.word h.1)) refl

-- If a network comes before another, so does its value.
pub ipv6_in_order : (x y : Ipv6Net) → IsBefore (ipv6_network x) (ipv6_network y)
    → ordering_then (nat_cmp x.high y.high)
    (ordering_then (nat_cmp x.low y.low) (nat_cmp x.prefix_len y.prefix_len)) ≡ Less
ipv6_in_order x y (inl h) = absurd (omega (arith, h))
ipv6_in_order x y (inr h) = halves_less x.high x.low y.high y.low x.prefix_len y.prefix_len x.low_fits y.low_fits h.1

-- No IPv6 network comes before an IPv4 network.
pub ipv6_not_first : (x : Ipv6Net) (y : Ipv4Net) → IsBefore (ipv6_network x) (ipv4_network y) → ⊥
ipv6_not_first x y (inl h) = omega (arith, h)
ipv6_not_first x y (inr h) = let same = h.0 in cc
