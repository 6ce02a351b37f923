-- Texts of lines that each end with "\n": how many there are, and the end of the first one.
use Rattle.std.proofs.Common.{◌≡◌, ◌≢◌, ℕ, ◌+◌, ◌-◌, ◌<◌, ◌≤◌, ◌==◌, Bool, true, false, List, [], ◌∷◌, ◌++◌, All}
use Rattle.std.proofs.Common.{length, length-append, take, drop, get_or, Some, None, inl, inr, refl, sym, ap}
use Rattle.std.proofs.Common.{ap₂, cond, IsTrue, ◌↔◌}
use Rattle.std.proofs.Common.{◌∙◌, subst, arith, eq-eqb, eqb-true, append_assoc}
use Rattle.std.proofs.lemmas.Bool.{cases_lt, ne_eqb, eqb-false}
use Rattle.std.proofs.lemmas.List.{get_or_at, get_or-append-add, get_or_append_left, take_at, drop_at}
use Rattle.std.proofs.lemmas.List.Elements.{filter-append, All-head, All-tail, All-cons, All-nil, All-get_or}
use Rattle.std.proofs.lemmas.List.Filters.{length-filter_more}
use Rattle.std.specs.Int.{from_bool}
use Rattle.std.specs.List.{filter}
use Rattle.memchr.specs.Find.{IsFirstByte, is_byte}
use Rattle.ipnet_c.specs.TextRows.{AreEndedLines, IsEnded, HasLines}

-- the number of line ends
abbrev pub line_ends : List ℕ → ℕ
line_ends text = length (filter (λ b. b == 10) text)

-- one byte more
bit : (b : Bool) → from_bool b ≡ cond b 1 0
bit true = refl
bit false = refl

-- The line ends before the index are counted.
pub record AreCounted (text : List ℕ) (index count : ℕ) : Type 0 where
  pub shown : count ≡ line_ends (take index text)
  pub few : count ≤ index

bit_small : (b : Bool) → from_bool b ≤ 1
bit_small true = omega arith
bit_small false = omega arith

pub counted_more : (text : List ℕ) (i count byte : ℕ) → i < length text → byte ≡ get_or text i 0
    → AreCounted text i count → AreCounted text (i + 1) (count + from_bool (byte == 10))
counted_more text i count byte within is h = record {
  shown =
      ap₂ (λ m n. m + n) h.shown (bit (byte == 10) ∙ ap (λ b. cond (b == 10) 1 0) is)
      ∙ sym (length-filter_more (λ b. b == 10) text i 0 within);
  few = omega (arith, h.few, bit_small (byte == 10));
}

no_ends : (line : List ℕ) → All (λ b. b ≢ 10) line → filter (λ b. b == 10) line ≡ []
no_ends [] h = refl
no_ends (b ∷ line) h =
    rw (ne_eqb b 10 (All-head (λ b. b ≢ 10) b line h)) (no_ends line (All-tail (λ b. b ≢ 10) b line h))

-- lines have as many line ends
ends_of_lines : (text : List ℕ) (lines : List (List ℕ)) → AreEndedLines text lines → line_ends text ≡ length lines
ends_of_lines text [] h = ap line_ends h
ends_of_lines text (line ∷ lines) (rest, cut, plain, more) =
    let whole : line_ends text ≡ length (filter (λ b. b == 10) line ++ filter (λ b. b == 10) (10 ∷ rest)) =
    ap line_ends cut ∙ ap length (filter-append (λ b. b == 10) line (10 ∷ rest)) in
    let parts = length-append (filter (λ b. b == 10) line) (filter (λ b. b == 10) (10 ∷ rest)) in
    let none : length (filter (λ b. b == 10) line) ≡ 0 = ap length (no_ends line plain) in
    let later = ends_of_lines rest lines more in
    omega (arith, whole, parts, none, later)

abbrev line_end : List ℕ
line_end = 10 ∷ []

-- and the last byte of them is one
last_byte : (line rest : List ℕ) → IsEnded rest
    → get_or (line ++ 10 ∷ rest) (length (line ++ 10 ∷ rest) - 1) 0 ≡ 10
last_byte line [] h =
    let parts = length-append line (10 ∷ []) in
    let place : length (line ++ 10 ∷ []) - 1 ≡ length line = omega (arith, parts) in
    ap (λ n. get_or (line ++ 10 ∷ []) n 0) place ∙ get_or_at line 10 [] 0 (length line) refl
last_byte line (b ∷ rest) (inl e) = absurd (omega (arith, e))
last_byte line (b ∷ rest) (inr e) =
    let parts = length-append line (10 ∷ b ∷ rest) in
    let one : length line_end ≡ 1 = refl in
    let place : length (line ++ 10 ∷ b ∷ rest) - 1 ≡ length line + (length line_end + length rest) =
    omega (arith, parts, one) in
    let last : length rest ≡ length (b ∷ rest) - 1 = omega arith in
    ap (λ n. get_or (line ++ 10 ∷ b ∷ rest) n 0) place
    ∙ get_or-append-add line (10 ∷ b ∷ rest) (length line_end + length rest) 0
    ∙ get_or-append-add line_end (b ∷ rest) (length rest) 0
    ∙ ap (λ n. get_or (b ∷ rest) n 0) last ∙ e

lines_are_ended : (text : List ℕ) (lines : List (List ℕ)) → AreEndedLines text lines → IsEnded text
lines_are_ended text [] h = inl (ap length h)
lines_are_ended text (line ∷ lines) (rest, cut, plain, more) =
    inr (ap (λ z. get_or z (length z - 1) 0) cut ∙ last_byte line rest (lines_are_ended rest lines more))

-- the line ends of a text with one byte more at its start
ends_of_more : (b : ℕ) (text : List ℕ) (is : Bool) → (b == 10) ≡ is
    → line_ends (b ∷ text) ≡ length (cond is (b ∷ filter (λ b. b == 10) text) (filter (λ b. b == 10) text))
ends_of_more b text is e =
    ap (λ z. length (cond z (b ∷ filter (λ b. b == 10) text) (filter (λ b. b == 10) text))) e

-- a text that ends with a line end is lines
one_byte_more : (b : ℕ) (text : List ℕ) → 0 < length text → HasLines text (line_ends text)
    → HasLines (b ∷ text) (line_ends (b ∷ text))
one_byte_more b text some h = by (b == 10) refl
  where
    put : (lines : List (List ℕ)) → AreEndedLines text lines → length lines ≡ line_ends text → (b == 10) ≡ false
        → HasLines (b ∷ text) (line_ends (b ∷ text))
    put [] ended as_many other = absurd (omega (arith, some, ap length ended))
    put (line ∷ lines) (rest, cut, plain, more) as_many other = record {
      lines = (b ∷ line) ∷ lines;
      ended = (rest, ap (λ z. b ∷ z) cut, All-cons (λ b. b ≢ 10) b line (eqb-false b 10 other) plain, more);
      as_many = let ends = ends_of_more b text false other in omega (arith, as_many, ends);
    }

    by : (is : Bool) → (b == 10) ≡ is → HasLines (b ∷ text) (line_ends (b ∷ text))
    by true e = record {
      lines = [] ∷ h.lines;
      ended = (text, ap (λ z. z ∷ text) (eqb-true b 10 e), All-nil (λ b. b ≢ 10), h.ended);
      as_many = let ends = ends_of_more b text true e in omega (arith, h.as_many, ends);
    }
    by false e = put h.lines h.ended h.as_many e

ended_has_lines : (text : List ℕ) → IsEnded text → HasLines text (line_ends text)
ended_has_lines [] h = record { lines = []; ended = refl; as_many = refl }
ended_has_lines (b ∷ []) (inl e) = absurd (omega (arith, e))
ended_has_lines (b ∷ []) (inr e) = record {
  lines = [] ∷ [];
  ended = ([], ap (λ z. z ∷ []) e, All-nil (λ b. b ≢ 10), refl);
  as_many = let ends = ends_of_more b [] true (eq-eqb b 10 e) in omega (arith, ends);
}
ended_has_lines (b ∷ c ∷ text) (inl e) = absurd (omega (arith, e))
ended_has_lines (b ∷ c ∷ text) (inr e) =
    let one : length (b ∷ []) ≡ 1 = refl in
    let here : length (c ∷ text) - 1 ≡ length text = omega arith in
    let there : length (b ∷ []) + length text ≡ length (b ∷ c ∷ text) - 1 = omega (arith, one) in
    one_byte_more b (c ∷ text) (omega arith) (ended_has_lines (c ∷ text)
    (inr (ap (λ n. get_or (c ∷ text) n 0) here ∙ sym (get_or-append-add (b ∷ []) (c ∷ text) (length text) 0)
    ∙ ap (λ n. get_or (b ∷ c ∷ text) n 0) there ∙ e)))

-- the test of the number of lines
pub lines_counted : (text : List ℕ) (count shown : ℕ) → IsEnded text → shown ≡ line_ends text
    → IsTrue (shown == count) ↔ HasLines text count
lines_counted text count shown ended e = (
  λ t. subst (HasLines text) (sym e ∙ eqb-true shown count t) (ended_has_lines text ended),
  λ h. eq-eqb shown count (e ∙ ends_of_lines text h.lines h.ended ∙ h.as_many),
)

pub not_lines : (text : List ℕ) (count : ℕ) → ¬ (IsEnded text) → HasLines text count → ⊥
not_lines text count none h = none (lines_are_ended text h.lines h.ended)

-- ---- the first line

passes : (text line rest : List ℕ) → text ≡ line ++ 10 ∷ rest → (get_or text (length line) 0 == 10) ≡ true
passes text line rest cut =
    eq-eqb (get_or text (length line) 0) 10
    (ap (λ z. get_or z (length line) 0) cut ∙ get_or_at line 10 rest 0 (length line) refl)

-- the first line end is the end of the first line
first_line_len : (text line rest : List ℕ) (len : ℕ) → text ≡ line ++ 10 ∷ rest → All (λ b. b ≢ 10) line
    → IsFirstByte (is_byte 10) text (Some len) → len ≡ length line
first_line_len text line rest len cut plain found = elim (cases_lt len (length line)) [
  | inl less ↦ absurd (All-get_or (λ b. b ≢ 10) line len 0 less plain
      (sym (ap (λ z. get_or z len 0) cut ∙ get_or_append_left line (10 ∷ rest) 0 len less)
      ∙ eqb-true (get_or text len 0) 10 found.1))
  | inr not ↦ elim (cases_lt (length line) len) [
    | inl more ↦ absurd (found.0.before (length line) (omega arith) more (passes text line rest cut))
    | inr same ↦ omega (arith, not, same)
  ]
]

-- what comes before it, and what comes after it
pub first_line : (text line rest : List ℕ) (len : ℕ) → text ≡ line ++ 10 ∷ rest → All (λ b. b ≢ 10) line
    → IsFirstByte (is_byte 10) text (Some len) → (take len text ≡ line) × (drop (len + 1) text ≡ rest)
first_line text line rest len cut plain found =
    let same = first_line_len text line rest len cut plain found in
    let size = length-append line (10 ∷ []) in (
      ap (take len) cut ∙ take_at line (10 ∷ rest) len (sym same),
      ap (drop (len + 1)) (cut ∙ sym (append_assoc line (10 ∷ []) rest))
          ∙ drop_at (line ++ 10 ∷ []) rest (len + 1) (omega (arith, same, size)),
    )

-- a text with a line has a line end
pub has_line_end : (text line rest : List ℕ) → text ≡ line ++ 10 ∷ rest → IsFirstByte (is_byte 10) text None → ⊥
has_line_end text line rest cut none =
    let size = ap length cut ∙ length-append line (10 ∷ rest) in
    none (length line) (omega arith) (omega (arith, size)) (passes text line rest cut)
