-- A text that ends with a line's end: its lines are followed by the lines of any text after it. And how many lines a
-- text has.
use Rattle.std.proofs.Common.{◌≡◌, ℕ, ◌+◌, ◌<◌, ◌≤◌, ◌==◌, true, false, List, [], ◌∷◌, ◌++◌, length, get_or, take}
use Rattle.std.proofs.Common.{if◌then◌else◌, refl, sym, ap, ◌∙◌, subst, arith, append_assoc, length-append}
use Rattle.std.proofs.lemmas.List.{take_more}
use Rattle.ipnet.specs.Lines.{lines_of, onto_first_line}

-- the lines of a text, followed by any other text, are its lines and then the lines of the other
abbrev pub IsClosed : List ℕ → Type 0
IsClosed text = (more : List ℕ) → lines_of (text ++ more) ≡ lines_of text ++ lines_of more

onto_some : (b : ℕ) (lines : List (List ℕ)) → 0 < length (onto_first_line b lines)
onto_some b [] = omega arith
onto_some b (line ∷ lines) = omega arith

onto_append : (b : ℕ) (lines more : List (List ℕ)) → 0 < length lines
    → onto_first_line b (lines ++ more) ≡ onto_first_line b lines ++ more
onto_append b [] more some = absurd (omega arith)
onto_append b (line ∷ lines) more some = refl

some_line : (b : ℕ) (text : List ℕ) → 0 < length (lines_of (b ∷ text))
some_line b text = elim (b == 10)
    as (λ t. 0 < length (if t then [] ∷ lines_of text else onto_first_line b (lines_of text)))
    [ true ↦ omega arith | false ↦ onto_some b (lines_of text) ]

lines_some : (text : List ℕ) → 0 < length text → 0 < length (lines_of text)
lines_some [] some = absurd (omega arith)
lines_some (b ∷ text) some = some_line b text

ended_some : (text : List ℕ) → 0 < length (lines_of (text ++ 10 ∷ []))
ended_some [] = some_line 10 []
ended_some (b ∷ text) = some_line b (text ++ 10 ∷ [])

ended_closed : (text : List ℕ) → IsClosed (text ++ 10 ∷ [])
ended_closed [] more = refl
ended_closed (b ∷ text) more =
    let ended = text ++ 10 ∷ [] in
    let later = ended_closed text more in
    elim (b == 10) as (λ t. (if t then [] ∷ lines_of (ended ++ more) else onto_first_line b (lines_of (ended ++ more)))
    ≡ (if t then [] ∷ lines_of ended else onto_first_line b (lines_of ended)) ++ lines_of more) [
      | true ↦ ap (λ z. [] ∷ z) later
      | false ↦ ap (onto_first_line b) later ∙ onto_append b (lines_of ended) (lines_of more) (ended_some text)
    ]

-- the bytes up to one that ends a line
pub front_closed : (bytes : List ℕ) (end : ℕ) → end < length bytes → get_or bytes end 0 ≡ 10
    → IsClosed (take (end + 1) bytes)
front_closed bytes end within is more =
    let ended : take (end + 1) bytes ≡ take end bytes ++ 10 ∷ [] =
    take_more bytes end 0 within ∙ ap (λ b. take end bytes ++ b ∷ []) is in
    subst (λ z. lines_of (z ++ more) ≡ lines_of z ++ lines_of more) (sym ended) (ended_closed (take end bytes) more)

pub closed_append : (front piece : List ℕ) → IsClosed front → IsClosed piece → IsClosed (front ++ piece)
closed_append front piece first second more =
    ap lines_of (append_assoc front piece more) ∙ first (piece ++ more)
    ∙ ap (λ z. lines_of front ++ z) (second more)
    ∙ sym (append_assoc (lines_of front) (lines_of piece) (lines_of more))
    ∙ ap (λ z. z ++ lines_of more) (sym (first piece))

-- bytes that end where a line ends, whatever stands before them
pub closed_behind : (front piece : List ℕ) → 0 < length piece → IsClosed piece → IsClosed (front ++ piece)
closed_behind [] piece some closed more = closed more
closed_behind (b ∷ front) piece some closed more =
    let later = closed_behind front piece some closed more in
    let lines = lines_some (front ++ piece) (omega (arith, some, length-append front piece)) in
    elim (b == 10) as (λ t. (if t then [] ∷ lines_of ((front ++ piece) ++ more)
    else onto_first_line b (lines_of ((front ++ piece) ++ more)))
    ≡ (if t then [] ∷ lines_of (front ++ piece) else onto_first_line b (lines_of (front ++ piece))) ++ lines_of more) [
      | true ↦ ap (λ z. [] ∷ z) later
      | false ↦ ap (onto_first_line b) later ∙ onto_append b (lines_of (front ++ piece)) (lines_of more) lines
    ]

onto_count : (b : ℕ) (lines : List (List ℕ)) → length (onto_first_line b lines) ≤ length lines + 1
onto_count b [] = omega arith
onto_count b (line ∷ lines) = omega arith

-- a text has no more lines than bytes
pub lines_count : (text : List ℕ) → length (lines_of text) ≤ length text
lines_count [] = omega arith
lines_count (b ∷ text) =
    let later = lines_count text in
    elim (b == 10) as (λ t. length (if t then [] ∷ lines_of text else onto_first_line b (lines_of text))
    ≤ length (b ∷ text)) [
      | true ↦ omega (arith, later)
      | false ↦ omega (arith, later, onto_count b (lines_of text))
    ]
