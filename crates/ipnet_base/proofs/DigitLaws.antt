-- Numbers and their digits: digits are ordered as the numbers that they write, and numbers with the same bytes are
-- equal.
use Rattle.std.proofs.Common.{◌≡◌, ℕ, ◌+◌, ◌*◌, ◌/◌, ◌%◌, ◌^◌, ◌<◌, List, [], ◌∷◌, length, slice_index, refl, sym, ap}
use Rattle.std.proofs.Common.{◌∙◌, arith, zero, suc, inl, inr}
use Rattle.std.specs.Bool.{⊤}
use Rattle.std.specs.Int.{w32, w128, byte_at, bytes_high_first, to_be_bytes, from_be_bytes, bytes_low_first}
use Rattle.std.specs.Net.Addr.{octets_of, segments_of}
use Rattle.std.specs.Cmp.Lexicographic.{slice_cmp}
use Rattle.std.specs.Ordering.{nat_cmp, ordering_then}
use Rattle.std.proofs.lemmas.Bool.{cases_lt}
use Rattle.std.proofs.lemmas.Bool.Decides.{nat_tests}
use Rattle.std.proofs.lemmas.Nat.{mul-add-lt, div-mul-add, mod-mul-add, mod_below}
use Rattle.std.proofs.Math.Arith.{mod-mul}
use Rattle.std.proofs.Math.Nat.{mul_comm, pow-zero, pow-succ', div-one, mod-eq_of_lt, one-le-pow, div-eq_of_lt}
use Rattle.std.proofs.Math.Nat.{div-div-eq-div-mul, pow-suc}
use Rattle.std.specs.Hash.{le_bytes}

-- the number that the digits write to the base r
abbrev pub value : ℕ → List ℕ → ℕ
value r [] = 0
value r (x ∷ xs) = x * r ^ length xs + value r xs

-- each is a digit to the base r
abbrev pub Below : ℕ → List ℕ → Type 0
Below r [] = ⊤
Below r (x ∷ xs) = (x < r) × Below r xs

pub value_below : (r : ℕ) (xs : List ℕ) → Below r xs → value r xs < r ^ length xs
value_below r [] h = rw (pow-zero r) (omega arith)
value_below r (x ∷ xs) h =
    let lower = mul-add-lt x (r ^ length xs) (value r xs) r h.0 (value_below r xs h.1) in
    let p : r ^ suc (length xs) ≡ r * r ^ length xs = pow-succ' r (length xs) in
    let turned = mul_comm r (r ^ length xs) in
    omega (arith, lower, p, turned)

-- the first digit decides, and if it is the same, the other digits decide
cmp_first : (x y p u v : ℕ) → u < p → v < p
    → ordering_then (nat_cmp x y) (nat_cmp u v) ≡ nat_cmp (x * p + u) (y * p + v)
cmp_first x y p u v hu hv = elim (cases_lt x y) [
  | inl lt ↦
      let low = mul-add-lt x p u y lt hu in
      let turned = mul_comm p y in
      let below : x * p + u < y * p + v = omega (arith, low, turned) in
      grind (arith, nat_tests)
  | inr ge ↦ elim (cases_lt y x) [
    | inl gt ↦
        let low = mul-add-lt y p v x gt hv in
        let turned = mul_comm p x in
        let below : y * p + v < x * p + u = omega (arith, low, turned) in
        grind (arith, nat_tests)
    | inr le ↦
        let e : x ≡ y = omega arith in
        rw e (grind (arith, nat_tests))
  ]
]

cmp_value : (r : ℕ) (xs ys : List ℕ) → length xs ≡ length ys → Below r xs → Below r ys
    → slice_cmp nat_cmp xs ys ≡ nat_cmp (value r xs) (value r ys)
cmp_value r [] [] e h k = refl
cmp_value r [] (y ∷ ys) e h k = absurd (omega arith)
cmp_value r (x ∷ xs) [] e h k = absurd (omega arith)
cmp_value r (x ∷ xs) (y ∷ ys) e h k =
    let same : length xs ≡ length ys = omega arith in
    let ih = cmp_value r xs ys same h.1 k.1 in
    let by : value r ys < r ^ length xs = rw (sym same) at (value_below r ys k.1) in
    ap (ordering_then (nat_cmp x y)) ih
    ∙ cmp_first x y (r ^ length xs) (value r xs) (value r ys) (value_below r xs h.1) by
    ∙ ap (λ (l : ℕ). nat_cmp (x * r ^ length xs + value r xs) (y * r ^ l + value r ys)) same

pub below_all : (r : ℕ) (xs : List ℕ) → ((k : ℕ) → slice_index xs k < r) → Below r xs
below_all r [] h = tt
below_all r (x ∷ xs) h = (h 0, below_all r xs (λ k. h (suc k)))

-- ---- four octets

value_4 : (xs : List ℕ) → length xs ≡ 4 → from_be_bytes w32 xs ≡ value 256 xs
value_4 [] e = absurd (omega arith)
value_4 (a ∷ []) e = absurd (omega arith)
value_4 (a ∷ b ∷ []) e = absurd (omega arith)
value_4 (a ∷ b ∷ c ∷ []) e = absurd (omega arith)
value_4 (a ∷ b ∷ c ∷ d ∷ []) e = omega arith
value_4 (a ∷ b ∷ c ∷ d ∷ x ∷ xs) e = absurd (omega arith)

pub cmp_octets : (xs ys : List ℕ) → length xs ≡ 4 → length ys ≡ 4
    → ((k : ℕ) → slice_index xs k < 256) → ((k : ℕ) → slice_index ys k < 256)
    → slice_cmp nat_cmp xs ys ≡ nat_cmp (from_be_bytes w32 xs) (from_be_bytes w32 ys)
cmp_octets xs ys ex ey hx hy =
    cmp_value 256 xs ys (ex ∙ sym ey) (below_all 256 xs hx) (below_all 256 ys hy)
    ∙ ap (λ (m : ℕ). nat_cmp m (value 256 ys)) (sym (value_4 xs ex))
    ∙ ap (λ (m : ℕ). nat_cmp (from_be_bytes w32 xs) m) (sym (value_4 ys ey))

-- ---- eight segments of two octets

-- a segment is its two octets
pub halves : (s : ℕ) → s / 256 * 256 + s % 256 ≡ s
halves s = omega arith

-- sixteen octets write std's number of them
pub sixteen_octets : (xs : List ℕ) → length xs ≡ 16 → from_be_bytes w128 xs ≡ value 256 xs
sixteen_octets [] len = absurd (omega arith)
sixteen_octets (a ∷ []) len = absurd (omega arith)
sixteen_octets (a ∷ b ∷ []) len = absurd (omega arith)
sixteen_octets (a ∷ b ∷ c ∷ []) len = absurd (omega arith)
sixteen_octets (a ∷ b ∷ c ∷ d ∷ []) len = absurd (omega arith)
sixteen_octets (a ∷ b ∷ c ∷ d ∷ e ∷ []) len = absurd (omega arith)
sixteen_octets (a ∷ b ∷ c ∷ d ∷ e ∷ f ∷ []) len = absurd (omega arith)
sixteen_octets (a ∷ b ∷ c ∷ d ∷ e ∷ f ∷ g ∷ []) len = absurd (omega arith)
sixteen_octets (a ∷ b ∷ c ∷ d ∷ e ∷ f ∷ g ∷ h ∷ []) len = absurd (omega arith)
sixteen_octets (a ∷ b ∷ c ∷ d ∷ e ∷ f ∷ g ∷ h ∷ i ∷ []) len = absurd (omega arith)
sixteen_octets (a ∷ b ∷ c ∷ d ∷ e ∷ f ∷ g ∷ h ∷ i ∷ j ∷ []) len = absurd (omega arith)
sixteen_octets (a ∷ b ∷ c ∷ d ∷ e ∷ f ∷ g ∷ h ∷ i ∷ j ∷ k ∷ []) len = absurd (omega arith)
sixteen_octets (a ∷ b ∷ c ∷ d ∷ e ∷ f ∷ g ∷ h ∷ i ∷ j ∷ k ∷ l ∷ []) len = absurd (omega arith)
sixteen_octets (a ∷ b ∷ c ∷ d ∷ e ∷ f ∷ g ∷ h ∷ i ∷ j ∷ k ∷ l ∷ m ∷ []) len = absurd (omega arith)
sixteen_octets (a ∷ b ∷ c ∷ d ∷ e ∷ f ∷ g ∷ h ∷ i ∷ j ∷ k ∷ l ∷ m ∷ n ∷ []) len = absurd (omega arith)
sixteen_octets (a ∷ b ∷ c ∷ d ∷ e ∷ f ∷ g ∷ h ∷ i ∷ j ∷ k ∷ l ∷ m ∷ n ∷ o ∷ []) len = absurd (omega arith)
sixteen_octets (a ∷ b ∷ c ∷ d ∷ e ∷ f ∷ g ∷ h ∷ i ∷ j ∷ k ∷ l ∷ m ∷ n ∷ o ∷ p ∷ []) len = omega arith
sixteen_octets (a ∷ b ∷ c ∷ d ∷ e ∷ f ∷ g ∷ h ∷ i ∷ j ∷ k ∷ l ∷ m ∷ n ∷ o ∷ p ∷ q ∷ more) len = absurd (omega arith)

pub length-octets_of : (xs : List ℕ) → length (octets_of xs) ≡ 2 * length xs
length-octets_of [] = refl
length-octets_of (s ∷ xs) = let later = length-octets_of xs in omega (arith, later)

pow-octets_of : (xs : List ℕ) → 256 ^ length (octets_of xs) ≡ 65536 ^ length xs
pow-octets_of [] = refl
pow-octets_of (s ∷ xs) =
    let later = pow-octets_of xs in
    let first : 256 ^ suc (suc (length (octets_of xs))) ≡ 256 * 256 ^ suc (length (octets_of xs)) =
    pow-succ' 256 (suc (length (octets_of xs))) in
    let second : 256 ^ suc (length (octets_of xs)) ≡ 256 * 256 ^ length (octets_of xs) =
    pow-succ' 256 (length (octets_of xs)) in
    let segment : 65536 ^ suc (length xs) ≡ 65536 * 65536 ^ length xs = pow-succ' 65536 (length xs) in
    omega (arith, later, first, second, segment)

value-octets_of : (xs : List ℕ) → value 256 (octets_of xs) ≡ value 65536 xs
value-octets_of [] = refl
value-octets_of (s ∷ xs) =
    let later = value-octets_of xs in
    let second : 256 ^ suc (length (octets_of xs)) ≡ 256 * 256 ^ length (octets_of xs) =
    pow-succ' 256 (length (octets_of xs)) in
    let segment : s * 256 ^ length (octets_of xs) ≡ s * 65536 ^ length xs = ap (λ n. s * n) (pow-octets_of xs) in
    let whole : (s / 256 * 256 + s % 256) * 256 ^ length (octets_of xs) ≡ s * 256 ^ length (octets_of xs) =
    ap (λ n. n * 256 ^ length (octets_of xs)) (halves s) in
    rw second (omega (arith, later, segment, whole))

value_8 : (xs : List ℕ) → length xs ≡ 8 → from_be_bytes w128 (octets_of xs) ≡ value 65536 xs
value_8 xs eight = sixteen_octets (octets_of xs) (omega (arith, length-octets_of xs)) ∙ value-octets_of xs

pub cmp_segments : (xs ys : List ℕ) → length xs ≡ 8 → length ys ≡ 8
    → ((k : ℕ) → slice_index xs k < 65536) → ((k : ℕ) → slice_index ys k < 65536)
    → slice_cmp nat_cmp xs ys ≡ nat_cmp (from_be_bytes w128 (octets_of xs)) (from_be_bytes w128 (octets_of ys))
cmp_segments xs ys ex ey hx hy =
    cmp_value 65536 xs ys (ex ∙ sym ey) (below_all 65536 xs hx) (below_all 65536 ys hy)
    ∙ ap (λ (m : ℕ). nat_cmp m (value 65536 ys)) (sym (value_8 xs ex))
    ∙ ap (λ (m : ℕ). nat_cmp (from_be_bytes w128 (octets_of xs)) m) (sym (value_8 ys ey))

-- ---- the octets of a number write that number

pub byte_at_below : (k n : ℕ) → byte_at k n < 256
byte_at_below zero n = mod_below n 256 (omega arith)
byte_at_below (suc k) n = mod_below (n / 256 ^ suc k) 256 (omega arith)

-- twice a number, by a recursion that a list of pairs follows
unfoldable pub pairs : ℕ → ℕ
pairs zero = 0
pairs (suc k) = suc (suc (pairs k))

octets_of-segments_of : (k n : ℕ) → octets_of (segments_of (bytes_high_first (pairs k) n))
    ≡ bytes_high_first (pairs k) n
unfolding pairs
octets_of-segments_of zero n = refl
octets_of-segments_of (suc k) n =
    let a = byte_at (suc (pairs k)) n in
    let b = byte_at (pairs k) n in
    let small = byte_at_below (pairs k) n in
    rw (div-mul-add a 256 b small, mod-mul-add a 256 b small, octets_of-segments_of k n) refl

length-bytes_high_first : (k n : ℕ) → length (bytes_high_first k n) ≡ k
length-bytes_high_first zero n = refl
length-bytes_high_first (suc k) n = let e = length-bytes_high_first k n in omega (arith, e)

byte_at-pow : (k n : ℕ) → byte_at k n ≡ n / 256 ^ k % 256
byte_at-pow zero n = ap (λ (y : ℕ). y % 256) (sym (div-one n))
byte_at-pow (suc k) n = refl

-- the lowest octets write the number's remainder
pub value-bytes_high_first : (k n : ℕ) → value 256 (bytes_high_first k n) ≡ n % 256 ^ k
value-bytes_high_first zero n = omega arith
value-bytes_high_first (suc k) n =
    let above : 0 < 256 ^ k = one-le-pow k 256 (omega arith) in
    let split = mod-mul n {m = 256} {c = 256 ^ k} (omega arith) above in
    rw (length-bytes_high_first k n, value-bytes_high_first k n, byte_at-pow k n, pow-succ' 256 k, split) refl

-- the octets of a number write it
pub number_back : (n : ℕ) → n < 2 ^ 128 → from_be_bytes w128 (to_be_bytes w128 n) ≡ n
number_back n fits = whole ∙ value-bytes_high_first 16 n ∙ mod-eq_of_lt fits
  where
    whole : from_be_bytes w128 (to_be_bytes w128 n) ≡ value 256 (to_be_bytes w128 n)
    whole = omega arith

-- so do the octets of its groups
pub octets_back : (n : ℕ) → n < 2 ^ 128 → from_be_bytes w128 (octets_of (segments_of (to_be_bytes w128 n))) ≡ n
unfolding pairs
octets_back n fits = ap (from_be_bytes w128) (octets_of-segments_of 8 n) ∙ number_back n fits

-- ---- bytes, the lowest first

-- a number without its bytes up to byte i
above_byte : (i x : ℕ) → x / 256 ^ suc i ≡ x / 256 ^ i / 256
above_byte i x = ap (λ p. x / p) (pow-suc 256 i) ∙ sym (div-div-eq-div-mul x (256 ^ i) 256)

-- two numbers agree from byte i on if they agree in n bytes from there, and above these
same_above : (n i top x y : ℕ) → top ≡ i + n → x / 256 ^ top ≡ y / 256 ^ top
    → bytes_low_first i n x ≡ bytes_low_first i n y → x / 256 ^ i ≡ y / 256 ^ i
same_above zero i top x y at high e = let here : top ≡ i = omega (arith, at) in rw (sym here) high
same_above (suc n) i top x y at high e =
    let byte : byte_at i x ≡ byte_at i y = cc in
    let rest : bytes_low_first (suc i) n x ≡ bytes_low_first (suc i) n y = cc in
    let later = same_above n (suc i) top x y (omega (arith, at)) high rest in
    let quotient : x / 256 ^ i / 256 ≡ y / 256 ^ i / 256 = sym (above_byte i x) ∙ later ∙ above_byte i y in
    let digit : x / 256 ^ i % 256 ≡ y / 256 ^ i % 256 = sym (byte_at-pow i x) ∙ byte ∙ byte_at-pow i y in
    omega (arith, quotient, digit)

-- numbers of n bytes with the same bytes are equal
pub same_by_bytes : (n x y : ℕ) → x < 256 ^ n → y < 256 ^ n → le_bytes n x ≡ le_bytes n y → x ≡ y
unfolding le_bytes
same_by_bytes n x y h k e =
    let high : x / 256 ^ n ≡ y / 256 ^ n = div-eq_of_lt h ∙ sym (div-eq_of_lt k) in
    sym (div-one x) ∙ same_above n 0 n x y (omega arith) high e ∙ div-one y
