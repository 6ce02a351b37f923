-- The octets of a number, its groups, and the number again.
use Rattle.std.proofs.Common.{◌≡◌, ℕ, zero, suc, ◌+◌, ◌*◌, ◌/◌, ◌%◌, ◌^◌, ◌<◌, List, [], ◌∷◌, length, get_or, refl, sym}
use Rattle.std.proofs.Common.{ap, ◌∙◌, arith, lit<}
use Rattle.std.proofs.Math.Nat.{mod-eq_of_lt}
use Rattle.std.proofs.lemmas.Nat.{div-mul-add, mod-mul-add, mod_below, be_bytes_4}
use Rattle.std.specs.Int.{w32, w128, to_be_bytes, from_be_bytes, bytes_high_first}
use Rattle.std.specs.declared.net.ipv4_addr.Ipv4Addr.{Ipv4Addr}
use Rattle.std.specs.declared.net.ipv6_addr.Ipv6Addr.{Ipv6Addr}
use Rattle.std.specs.Net.Addr.{segments_of, octets_of, ipv4_octets, ipv6_segments, ipv4_bits, ipv6_bits, IsIpv4Addr}
use Rattle.std.specs.Net.Addr.{IsIpv6Addr}
use Rattle.ipnet_base.proofs.DigitLaws.{value, value_below, below_all, byte_at_below, pairs, halves}
use Rattle.ipnet_base.proofs.DigitLaws.{value-bytes_high_first, sixteen_octets, length-octets_of}

-- the octets of a number are bytes
pub octet_fits : (len n : ℕ) → (k : ℕ) → get_or (bytes_high_first len n) k 0 < 2 ^ 8
octet_fits zero n k = lit< tt
octet_fits (suc len) n zero = byte_at_below len n
octet_fits (suc len) n (suc k) = octet_fits len n k

pairs_are_groups : (len n k : ℕ) → get_or (segments_of (bytes_high_first (pairs len) n)) k 0 < 2 ^ 16
unfolding pairs
pairs_are_groups zero n k = lit< tt
pairs_are_groups (suc len) n zero = let high = byte_at_below (suc (pairs len)) n in let low =
    byte_at_below (pairs len) n in omega arith
pairs_are_groups (suc len) n (suc k) = pairs_are_groups len n k

-- its groups have 16 bits
pub group_fits : (n k : ℕ) → get_or (segments_of (to_be_bytes w128 n)) k 0 < 2 ^ 16
unfolding pairs
group_fits n k = pairs_are_groups 8 n k

-- ---- the number of octets, and the octets again

AreOctets : List ℕ → Type 0
AreOctets bytes = (k : ℕ) → get_or bytes k 0 < 256

number_below : (bytes : List ℕ) → AreOctets bytes → value 256 bytes < 256 ^ length bytes
unfolding AreOctets
number_below bytes fit = value_below 256 bytes (below_all 256 bytes fit)

-- octets that write one number are the same
same_octets : (xs ys : List ℕ) → length xs ≡ length ys → AreOctets xs → AreOctets ys → value 256 xs ≡ value 256 ys
    → xs ≡ ys
unfolding AreOctets
same_octets [] [] len fit fit' e = refl
same_octets [] (y ∷ ys) len fit fit' e = absurd (omega arith)
same_octets (x ∷ xs) [] len fit fit' e = absurd (omega arith)
same_octets (x ∷ xs) (y ∷ ys) len fit fit' e =
    let same : length xs ≡ length ys = omega arith in
    let low = number_below xs (λ k. fit (suc k)) in
    let low' : value 256 ys < 256 ^ length xs = rw (sym same) at (number_below ys (λ k. fit' (suc k))) in
    let one : x * 256 ^ length xs + value 256 xs ≡ y * 256 ^ length xs + value 256 ys =
    e ∙ ap (λ (n : ℕ). y * 256 ^ n + value 256 ys) (sym same) in
    let first : x ≡ y =
    sym (div-mul-add x (256 ^ length xs) (value 256 xs) low) ∙ ap (λ (n : ℕ). n / 256 ^ length xs) one
    ∙ div-mul-add y (256 ^ length xs) (value 256 ys) low' in
    let rest : value 256 xs ≡ value 256 ys =
    sym (mod-mul-add x (256 ^ length xs) (value 256 xs) low) ∙ ap (λ (n : ℕ). n % 256 ^ length xs) one
    ∙ mod-mul-add y (256 ^ length xs) (value 256 ys) low' in
    let later = same_octets xs ys same (λ k. fit (suc k)) (λ k. fit' (suc k)) rest in
    cc

-- sixteen octets are the octets of the number that they write
pub sixteen_again : (bytes : List ℕ) → length bytes ≡ 16 → ((k : ℕ) → get_or bytes k 0 < 2 ^ 8)
    → to_be_bytes w128 (from_be_bytes w128 bytes) ≡ bytes
unfolding AreOctets
sixteen_again bytes sixteen fit =
    let whole = sixteen_octets bytes sixteen in
    let low : value 256 bytes < 256 ^ 16 = rw sixteen at (number_below bytes fit) in
    let e : value 256 (to_be_bytes w128 (from_be_bytes w128 bytes)) ≡ value 256 bytes =
    ap (λ n. value 256 (to_be_bytes w128 n)) whole ∙ value-bytes_high_first 16 (value 256 bytes) ∙ mod-eq_of_lt low in
    same_octets (to_be_bytes w128 (from_be_bytes w128 bytes)) bytes (sym sixteen)
    (octet_fits 16 (from_be_bytes w128 bytes)) fit e

segments_of-octets_of : (groups : List ℕ) → segments_of (octets_of groups) ≡ groups
segments_of-octets_of [] = refl
segments_of-octets_of (g ∷ groups) = rw (halves g, segments_of-octets_of groups) refl

octets_of-octets : (groups : List ℕ) → ((k : ℕ) → get_or groups k 0 < 2 ^ 16) → AreOctets (octets_of groups)
unfolding AreOctets
octets_of-octets [] fit k = lit< tt
octets_of-octets (g ∷ groups) fit zero = let low = fit 0 in omega arith
octets_of-octets (g ∷ groups) fit (suc zero) = mod_below g 256 (omega arith)
octets_of-octets (g ∷ groups) fit (suc (suc k)) = octets_of-octets groups (λ j. fit (suc j)) k

-- eight groups write a number of 128 bits
pub eight_groups_below : (groups : List ℕ) → length groups ≡ 8 → ((k : ℕ) → get_or groups k 0 < 2 ^ 16)
    → from_be_bytes w128 (octets_of groups) < 2 ^ 128
eight_groups_below groups eight fit =
    let sixteen : length (octets_of groups) ≡ 16 = omega (arith, length-octets_of groups) in
    let low : value 256 (octets_of groups) < 256 ^ 16 =
    rw sixteen at (number_below (octets_of groups) (octets_of-octets groups fit)) in
    rw (sixteen_octets (octets_of groups) sixteen) low

-- and are the groups of that number
groups_again : (groups : List ℕ) → length groups ≡ 8 → ((k : ℕ) → get_or groups k 0 < 2 ^ 16)
    → segments_of (to_be_bytes w128 (from_be_bytes w128 (octets_of groups))) ≡ groups
unfolding AreOctets
groups_again groups eight fit =
    let sixteen : length (octets_of groups) ≡ 16 = omega (arith, length-octets_of groups) in
    ap segments_of (sixteen_again (octets_of groups) sixteen (octets_of-octets groups fit))
    ∙ segments_of-octets_of groups

-- the octets and groups of std's addresses are the octets and groups of their bits
pub ipv4_octets_of_bits : (a : Ipv4Addr) → IsIpv4Addr a → to_be_bytes w32 (ipv4_bits a) ≡ ipv4_octets a
unfolding ipv4_bits
ipv4_octets_of_bits a h = be_bytes_4 (ipv4_octets a) (from_be_bytes w32 (ipv4_octets a)) h.0 h.1 refl

pub ipv6_groups_of_bits : (a : Ipv6Addr) → IsIpv6Addr a → segments_of (to_be_bytes w128 (ipv6_bits a)) ≡ ipv6_segments a
unfolding ipv6_bits
ipv6_groups_of_bits a h = groups_again (ipv6_segments a) h.0 h.1
