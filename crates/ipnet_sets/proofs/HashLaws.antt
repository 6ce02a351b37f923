-- Sets feed a hasher the same bytes only if they have the same addresses: the number of IPv4 boundaries fixes the place
-- of the first IPv6 boundary.
use Rattle.std.proofs.Common.{◌≡◌, ℕ, suc, ◌^◌, ◌<◌, List, [], ◌∷◌, ◌++◌, length, map, All}
use Rattle.std.proofs.Common.{refl, ap, ap₂, subst, arith}
use Rattle.std.specs.Hash.{le_bytes}
use Rattle.std.specs.List.{flat_map}
use Rattle.ipnet_base.specs.Address.{Family, IPv4, IPv6}
use Rattle.ipnet_base.proofs.DigitLaws.{same_by_bytes}
use Rattle.ipnet_sets.specs.declared.set.IpSet.{IpSet}
use Rattle.ipnet_sets.specs.Boundaries.{AreBoundaries}
use Rattle.ipnet_sets.specs.Members.{HaveSameAddresses}
use Rattle.ipnet_sets.proofs.RangeEndLaws.{boundaries_fit}
use Rattle.ipnet_sets.proofs.SetEqualLaws.{words_are_numbers, same_addresses}

-- the bytes that a list of words of this size feeds
abbrev pub fed : ℕ → List ℕ → List (List ℕ)
fed size words = flat_map (λ n. le_bytes size n ∷ []) words

length-fed : (size : ℕ) (words : List ℕ) → length (fed size words) ≡ length words
length-fed size [] = refl
length-fed size (w ∷ ws) = omega (arith, length-fed size ws)

-- if two lists of equally many words feed the same bytes, the words are the same, and so are the bytes after them
same_fed : (size : ℕ) (xs ys : List ℕ) (more other : List (List ℕ)) → length xs ≡ length ys
    → All (λ n. n < 256 ^ size) xs → All (λ n. n < 256 ^ size) ys → fed size xs ++ more ≡ fed size ys ++ other
    → (xs ≡ ys) × (more ≡ other)
same_fed size [] [] more other l a b e = (refl, e)
same_fed size [] (y ∷ ys) more other l a b e = absurd (omega (arith, l))
same_fed size (x ∷ xs) [] more other l a b e = absurd (omega (arith, l))
same_fed size (x ∷ xs) (y ∷ ys) more other l a b e =
    let bytes : le_bytes size x ≡ le_bytes size y = cc in
    let rest : fed size xs ++ more ≡ fed size ys ++ other = cc in
    let (tails, after) = same_fed size xs ys more other (omega (arith, l))
    (λ k d m. a (suc k) d (omega (arith, m))) (λ k d m. b (suc k) d (omega (arith, m))) rest in
    (ap₂ (λ z zs. z ∷ zs) (same_by_bytes size x y (a 0 x (omega arith)) (b 0 y (omega arith)) bytes) tails, after)

-- what a hasher is fed of a set
abbrev pub hashed : IpSet → List (List ℕ)
hashed s = le_bytes 8 (length s.ipv4.items) ∷ (fed 4 s.ipv4.items
    ++ le_bytes 8 (length s.ipv6.items) ∷ fed 16 s.ipv6.items)

-- the words are boundaries
word_boundaries : (f : Family) (words : List ℕ) → AreBoundaries f (map (λ n. n) words) → AreBoundaries f words
word_boundaries f words h = subst (AreBoundaries f) (words_are_numbers words) h

ipv4_words : (s : IpSet) → All (λ n. n < 256 ^ 4) s.ipv4.items
ipv4_words s k d l = omega (arith, (word_boundaries IPv4 s.ipv4.items s.ipv4_boundaries).fits k d l)

ipv6_words : (s : IpSet) → All (λ n. n < 256 ^ 16) s.ipv6.items
ipv6_words s k d l = omega (arith, (word_boundaries IPv6 s.ipv6.items s.ipv6_boundaries).fits k d l)

ipv4_length : (s : IpSet) → length s.ipv4.items < 256 ^ 8
ipv4_length s = omega (arith, boundaries_fit IPv4 s.ipv4.items (word_boundaries IPv4 s.ipv4.items s.ipv4_boundaries))

pub hashed_apart : (a b : IpSet) → hashed a ≡ hashed b → HaveSameAddresses a b
hashed_apart a b e =
    let count : le_bytes 8 (length a.ipv4.items) ≡ le_bytes 8 (length b.ipv4.items) = cc in
    let rest : fed 4 a.ipv4.items ++ le_bytes 8 (length a.ipv6.items) ∷ fed 16 a.ipv6.items
    ≡ fed 4 b.ipv4.items ++ le_bytes 8 (length b.ipv6.items) ∷ fed 16 b.ipv6.items = cc in
    let (ipv4, later) = same_fed 4 a.ipv4.items b.ipv4.items
    (le_bytes 8 (length a.ipv6.items) ∷ fed 16 a.ipv6.items) (le_bytes 8 (length b.ipv6.items) ∷ fed 16 b.ipv6.items)
    (same_by_bytes 8 (length a.ipv4.items) (length b.ipv4.items) (ipv4_length a) (ipv4_length b) count)
    (ipv4_words a) (ipv4_words b) rest in
    let last : fed 16 a.ipv6.items ≡ fed 16 b.ipv6.items = cc in
    let (ipv6, none) = same_fed 16 a.ipv6.items b.ipv6.items [] []
    (omega (arith, length-fed 16 a.ipv6.items, length-fed 16 b.ipv6.items, ap length last)) (ipv6_words a)
    (ipv6_words b) (ap (λ z. z ++ []) last) in
    same_addresses a b ipv4 ipv6
