-- The network types are ordered as networks, and different networks feed a hasher different bytes.
use Rattle.std.proofs.Common.{◌≡◌, ℕ, ◌+◌, ◌*◌, ◌/◌, ◌%◌, ◌^◌, ◌<◌, ◌⊎◌, ◌↔◌, List, [], ◌∷◌, inl, inr, refl, ap, sym}
use Rattle.std.proofs.Common.{arith, Ordering, Less, Equal, Greater, nat_cmp}
use Rattle.std.specs.Cmp.{ranks}
use Rattle.std.proofs.lemmas.Bool.{cases_order}
use Rattle.std.specs.Ordering.{MatchOrdering, ordering_then}
use Rattle.std.specs.Hash.{le_bytes}
use Rattle.ipnet_base.specs.Network.{Network, IsBefore}
use Rattle.ipnet_base.proofs.NetworkLaws.{same_network}
use Rattle.ipnet_base.proofs.DigitLaws.{same_by_bytes}
use Rattle.ipnet_base.proofs.ValueLaws.{FeedsByFamily, hashed_by_family}
use Rattle.ipnet.specs.declared.net.IpNet.{IpNet}
use Rattle.ipnet.specs.declared.net.ipv4_net.Ipv4Net.{Ipv4Net}
use Rattle.ipnet.specs.declared.net.ipv6_net.Ipv6Net.{Ipv6Net}
use Rattle.ipnet.specs.NetworkOf.{ipv4_network, ipv6_network, ip_network}
use Rattle.ipnet.specs.NetLaws.{ipv4_one_to_one, ipv6_one_to_one, ip_one_to_one}
use Rattle.ipnet.specs.declared.net.IpNet.TheVariants as Ip

-- a comparison, and a second one if the first finds both equal
then_ranks : (r s : Ordering) (P Q R P' Q' R' : Type 0) → MatchOrdering r P Q R → MatchOrdering s P' Q' R'
    → MatchOrdering (ordering_then r s) (P ⊎ (Q × P')) (Q × Q') (R ⊎ (Q × R'))
then_ranks Less s P Q R P' Q' R' h k = inl h
then_ranks Equal Less P Q R P' Q' R' h k = inr (h, k)
then_ranks Equal Equal P Q R P' Q' R' h k = (h, k)
then_ranks Equal Greater P Q R P' Q' R' h k = inr (h, k)
then_ranks Greater s P Q R P' Q' R' h k = inl h

-- the same of what follows from each
ranks_along : (r : Ordering) (P Q R P' Q' R' : Type 0) → (P → P') → (Q → Q') → (R → R')
    → MatchOrdering r P Q R → MatchOrdering r P' Q' R'
ranks_along Less P Q R P' Q' R' f g h k = f k
ranks_along Equal P Q R P' Q' R' f g h k = g k
ranks_along Greater P Q R P' Q' R' f g h k = h k

-- r says how the two networks are ordered
abbrev Ranks : Ordering → Network → Network → Type 0
Ranks r n k = MatchOrdering r (IsBefore n k) (n ≡ k) (IsBefore k n)

-- the first numbers are below one another, or equal and the second ones below
abbrev IsLess : ℕ → ℕ → ℕ → ℕ → Type 0
IsLess a b c d = (a < c) ⊎ ((a ≡ c) × (b < d))

-- networks of one family by number and length
before : (n k : Network) → n.family ≡ k.family → IsLess n.number n.prefix_len k.number k.prefix_len → IsBefore n k
before n k same h = inr (same, h)

-- words are compared as the numbers in their upper halves, and if these are equal, as the lengths in the lower halves
halves_of_less : (v w : ℕ) → v < w → IsLess (v / 2 ^ 32) (v % 2 ^ 32) (w / 2 ^ 32) (w % 2 ^ 32)
halves_of_less v w lt = elim (cases_order (v / 2 ^ 32) (w / 2 ^ 32)) [
  | inl same ↦ inr (same, omega (arith, same, lt))
  | inr (inl less) ↦ inl less
  | inr (inr more) ↦ absurd (omega (arith, more, lt))
]

pub ipv4_ranks : (x y : Ipv4Net) → Ranks (nat_cmp x.word y.word) (ipv4_network x) (ipv4_network y)
ipv4_ranks x y =
    let n = ipv4_network x in
    let k = ipv4_network y in
    ranks_along (nat_cmp x.word y.word) (x.word < y.word) (x.word ≡ y.word) (y.word < x.word)
    (IsBefore n k) (n ≡ k) (IsBefore k n)
    (λ h. before n k refl (halves_of_less x.word y.word h))
    (λ e. same_network n k refl (ap (λ w. w / 2 ^ 32) e) (ap (λ w. w % 2 ^ 32) e))
    (λ h. before k n refl (halves_of_less y.word x.word h))
    (ranks x.word y.word)

-- numbers in two halves are compared by the high halves and then by the low ones
halves_below : (a b c d p q : ℕ) → b < 2 ^ 64 → d < 2 ^ 64 → (a < c) ⊎ ((a ≡ c) × IsLess b p d q)
    → IsLess (a * 2 ^ 64 + b) p (c * 2 ^ 64 + d) q
halves_below a b c d p q l m (inl lt) = inl (omega arith)
halves_below a b c d p q l m (inr h) = elim h.1 [
  | inl lt ↦ inl (omega (arith, h.0))
  | inr k ↦ inr (omega (arith, h.0, k.0), k.1)
]

-- the equations of a comparison, read from the other side
turned : (a b c d p q : ℕ) → (c < a) ⊎ ((a ≡ c) × ((d < b) ⊎ ((b ≡ d) × (q < p))))
    → (c < a) ⊎ ((c ≡ a) × IsLess d q b p)
turned a b c d p q (inl lt) = inl lt
turned a b c d p q (inr (e, inl lt)) = inr (sym e, inl lt)
turned a b c d p q (inr (e, inr (f, lt))) = inr (sym e, inr (sym f, lt))

-- the result of the derived comparison of two IPv6 networks
abbrev ipv6_cmp : Ipv6Net → Ipv6Net → Ordering
ipv6_cmp x y =
    ordering_then (nat_cmp x.high y.high) (ordering_then (nat_cmp x.low y.low) (nat_cmp x.prefix_len y.prefix_len))

pub ipv6_ranks : (x y : Ipv6Net) → Ranks (ipv6_cmp x y) (ipv6_network x) (ipv6_network y)
ipv6_ranks x y =
    let n = ipv6_network x in
    let k = ipv6_network y in
    ranks_along (ipv6_cmp x y)
    ((x.high < y.high) ⊎ ((x.high ≡ y.high) × IsLess x.low x.prefix_len y.low y.prefix_len))
    ((x.high ≡ y.high) × ((x.low ≡ y.low) × (x.prefix_len ≡ y.prefix_len)))
    ((y.high < x.high) ⊎ ((x.high ≡ y.high) × ((y.low < x.low) ⊎ ((x.low ≡ y.low) × (y.prefix_len < x.prefix_len)))))
    (IsBefore n k) (n ≡ k) (IsBefore k n)
    (λ h. before n k refl (halves_below x.high x.low y.high y.low x.prefix_len y.prefix_len x.low_fits y.low_fits h))
    (λ h. same_network n k refl (omega (arith, h.0, h.1.0)) h.1.1)
    (λ h. before k n refl (halves_below y.high y.low x.high x.low y.prefix_len x.prefix_len y.low_fits x.low_fits
    (turned x.high x.low y.high y.low x.prefix_len y.prefix_len h)))
    (then_ranks (nat_cmp x.high y.high) (ordering_then (nat_cmp x.low y.low) (nat_cmp x.prefix_len y.prefix_len))
    (x.high < y.high) (x.high ≡ y.high) (y.high < x.high)
    (IsLess x.low x.prefix_len y.low y.prefix_len)
    ((x.low ≡ y.low) × (x.prefix_len ≡ y.prefix_len))
    ((y.low < x.low) ⊎ ((x.low ≡ y.low) × (y.prefix_len < x.prefix_len)))
    (ranks x.high y.high)
    (then_ranks (nat_cmp x.low y.low) (nat_cmp x.prefix_len y.prefix_len)
    (x.low < y.low) (x.low ≡ y.low) (y.low < x.low)
    (x.prefix_len < y.prefix_len) (x.prefix_len ≡ y.prefix_len) (y.prefix_len < x.prefix_len)
    (ranks x.low y.low) (ranks x.prefix_len y.prefix_len)))

-- the bytes that a network feeds a hasher
abbrev pub ipv4_fed : Ipv4Net → List (List ℕ)
ipv4_fed n = le_bytes 8 n.word ∷ []

pub ipv4_hash : (x y : Ipv4Net) → (ipv4_fed x ≡ ipv4_fed y) ↔ (ipv4_network x ≡ ipv4_network y)
ipv4_hash x y = (to, λ e. ap ipv4_fed (ipv4_one_to_one x y e))
  where
    to : ipv4_fed x ≡ ipv4_fed y → ipv4_network x ≡ ipv4_network y
    to e =
        let word : le_bytes 8 x.word ≡ le_bytes 8 y.word = cc in
        let same : x.word ≡ y.word = same_by_bytes 8 x.word y.word x.word_fits y.word_fits word in
        same_network (ipv4_network x) (ipv4_network y) refl (ap (λ w. w / 2 ^ 32) same) (ap (λ w. w % 2 ^ 32) same)

abbrev pub ipv6_fed : Ipv6Net → List (List ℕ)
ipv6_fed n = le_bytes 8 n.high ∷ le_bytes 8 n.low ∷ le_bytes 8 n.prefix_len ∷ []

pub ipv6_hash : (x y : Ipv6Net) → (ipv6_fed x ≡ ipv6_fed y) ↔ (ipv6_network x ≡ ipv6_network y)
ipv6_hash x y = (to, λ e. ap ipv6_fed (ipv6_one_to_one x y e))
  where
    to : ipv6_fed x ≡ ipv6_fed y → ipv6_network x ≡ ipv6_network y
    to e =
        let high : le_bytes 8 x.high ≡ le_bytes 8 y.high = cc in
        let low : le_bytes 8 x.low ≡ le_bytes 8 y.low = cc in
        let len : le_bytes 8 x.prefix_len ≡ le_bytes 8 y.prefix_len = cc in
        let same_high : x.high ≡ y.high = same_by_bytes 8 x.high y.high x.high_fits y.high_fits high in
        let same_low : x.low ≡ y.low = same_by_bytes 8 x.low y.low x.low_fits y.low_fits low in
        same_network (ipv6_network x) (ipv6_network y) refl (omega arith)
        (same_by_bytes 8 x.prefix_len y.prefix_len (omega (arith, x.prefix_fits)) (omega (arith, y.prefix_fits)) len)

either_family : (n : IpNet) → ((a : Ipv4Net) × (n ≡ Ip.V4 a)) ⊎ ((b : Ipv6Net) × (n ≡ Ip.V6 b))
either_family (Ip.V4 n) = inl (n, refl)
either_family (Ip.V6 n) = inr (n, refl)

pub ip_hash : (fed : IpNet → List (List ℕ)) → FeedsByFamily Ip.V4 Ip.V6 ipv4_fed ipv6_fed fed
    → (x y : IpNet) → (fed x ≡ fed y) ↔ (ip_network x ≡ ip_network y)
ip_hash fed f = hashed_by_family either_family f ip_network ipv4_hash ipv6_hash ip_one_to_one
