-- Blanks at the ends of a text.
use Rattle.std.proofs.Common.{◌≡◌, ◌≢◌, ℕ, ◌+◌, ◌-◌, ◌<◌, ◌≤◌, Bool, true, false, List, [], ◌∷◌, All, length, get_or}
use Rattle.std.proofs.Common.{take, drop, refl, sym, ap, ◌∙◌, subst, arith, inl, inr, take_all, reverse}
use Rattle.std.proofs.Common.{get_or-take, get_or-drop, length-take-le, length-drop}
use Rattle.std.specs.Char.{is_ascii_whitespace}
use Rattle.std.specs.List.{prefix_len, suffix_len}
use Rattle.std.proofs.lemmas.Bool.{cases_lt}
use Rattle.std.proofs.lemmas.Bool.Decides.{nat_tests}
use Rattle.std.proofs.lemmas.List.{get_or-reverse, length-reverse}
use Rattle.std.proofs.lemmas.List.Elements.{All-get_or, All-from_get_or, All-weaker}
use Rattle.std.proofs.lemmas.List.Sums.{prefix_len_passes}
use Rattle.ipnet_lists.specs.Entries.{after_blanks, before_blanks}
use Rattle.ipnet_lists.proofs.AddressBytes.{IsAddressByte}

-- ---- what blanks are not

blank_ascii : (b : ℕ) → is_ascii_whitespace b ≡ true → b < 128
blank_ascii b h = grind (arith, nat_tests, h)

blank_no_dash : (b : ℕ) → is_ascii_whitespace b ≡ true → b ≢ 45
blank_no_dash b h e = grind (arith, nat_tests, h, e)

-- ---- what holds of the bytes of a text, if it does of blanks

-- the last bytes of it are blanks
ends_blank : (text : List ℕ) (i : ℕ) → i < length text → length text - suffix_len is_ascii_whitespace text ≤ i
    → is_ascii_whitespace (get_or text i 0) ≡ true
ends_blank text i less behind =
    let k = length text - 1 - i in
    let within : k < suffix_len is_ascii_whitespace text = omega (arith, less, behind) in
    let inside : k < length text = omega (arith, less) in
    let back : length text - 1 - k ≡ i = omega (arith, less) in
    ap is_ascii_whitespace (sym (get_or-reverse text k 0 inside ∙ ap (λ j. get_or text j 0) back))
    ∙ prefix_len_passes is_ascii_whitespace (reverse text) k 0 within

with_end : (P : ℕ → Type 0) → ((b : ℕ) → is_ascii_whitespace b ≡ true → P b) → (text : List ℕ)
    → All P (before_blanks text) → All P text
with_end P blank text h =
    let n = length text - suffix_len is_ascii_whitespace text in
    let len : length (take n text) ≡ n = length-take-le n text (omega arith) in
    All-from_get_or P text 0 (λ i less. elim (cases_lt i n) [
      | inl before ↦
          subst P (get_or-take n text i 0 before) (All-get_or P (take n text) i 0 (omega (arith, before, len)) h)
      | inr behind ↦ blank (get_or text i 0) (ends_blank text i less behind)
    ])

with_start : (P : ℕ → Type 0) → ((b : ℕ) → is_ascii_whitespace b ≡ true → P b) → (text : List ℕ)
    → All P (after_blanks text) → All P text
with_start P blank text h =
    let n = prefix_len is_ascii_whitespace text in
    All-from_get_or P text 0 (λ i less. elim (cases_lt i n) [
      | inl before ↦ blank (get_or text i 0) (prefix_len_passes is_ascii_whitespace text i 0 before)
      | inr behind ↦
          let same : n + (i - n) ≡ i = omega (arith, behind) in
          subst P (get_or-drop n text (i - n) 0 ∙ ap (λ j. get_or text j 0) same)
          (All-get_or P (drop n text) (i - n) 0 (omega (arith, less, behind, length-drop n text)) h)
    ])

-- the text before "-" lacks it, and the text after it does
pub undashed_front : (text : List ℕ) → All IsAddressByte (before_blanks text) → All (λ b. b ≢ 45) text
undashed_front text h =
    with_end (λ b. b ≢ 45) blank_no_dash text
    (All-weaker IsAddressByte (λ b. b ≢ 45) (λ b is. is.no_dash) (before_blanks text) h)

pub ascii_front : (text : List ℕ) → All IsAddressByte (before_blanks text) → All (λ b. b < 128) text
ascii_front text h =
    with_end (λ b. b < 128) blank_ascii text
    (All-weaker IsAddressByte (λ b. b < 128) (λ b is. is.ascii) (before_blanks text) h)

pub ascii_back : (text : List ℕ) → All IsAddressByte (after_blanks text) → All (λ b. b < 128) text
ascii_back text h =
    with_start (λ b. b < 128) blank_ascii text
    (All-weaker IsAddressByte (λ b. b < 128) (λ b is. is.ascii) (after_blanks text) h)

-- ---- nothing is around a text

pub first_fails : (p : ℕ → Bool) (xs : List ℕ) → (0 < length xs → p (get_or xs 0 0) ≡ false) → prefix_len p xs ≡ 0
first_fails p [] h = refl
first_fails p (x ∷ xs) h = let fails : p x ≡ false = h (omega arith) in rw fails

pub last_one_fails : (p : ℕ → Bool) (xs : List ℕ) → (0 < length xs → p (get_or xs (length xs - 1 - 0) 0) ≡ false)
    → suffix_len p xs ≡ 0
last_one_fails p xs h =
    first_fails p (reverse xs)
    (λ some. let within : 0 < length xs = omega (arith, some, length-reverse xs) in
    ap p (get_or-reverse xs 0 0 within) ∙ h within)

pub last_fails : (p : ℕ → Bool) (xs : List ℕ) → ((i : ℕ) → i < length xs → p (get_or xs i 0) ≡ false)
    → suffix_len p xs ≡ 0
last_fails p xs h = last_one_fails p xs (λ within. h (length xs - 1 - 0) (omega (arith, within)))

no_blank_at : (text : List ℕ) → All IsAddressByte text → (i : ℕ) → i < length text
    → is_ascii_whitespace (get_or text i 0) ≡ false
no_blank_at text h i less = (All-get_or IsAddressByte text i 0 less h).plain.no_blank

pub bare_front : (text : List ℕ) → All IsAddressByte text → before_blanks text ≡ text
bare_front text h =
    ap (λ k. take (length text - k) text) (last_fails is_ascii_whitespace text (no_blank_at text h))
    ∙ take_all (length text - 0) text (omega arith)

pub bare_back : (text : List ℕ) → All IsAddressByte text → after_blanks text ≡ text
bare_back text h =
    ap (λ k. drop k text) (first_fails is_ascii_whitespace text (no_blank_at text h 0))
