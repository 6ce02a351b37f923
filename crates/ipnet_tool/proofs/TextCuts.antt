-- The places at which a text in UTF-8 may be cut, and bytes that are not UTF-8, whatever follows them.
use Rattle.std.proofs.Common.{◌≡◌, ℕ, ◌+◌, ◌-◌, ◌<◌, ◌≤◌, ◌==◌, Bool, true, false, List, [], ◌∷◌, ◌++◌, length, get_or}
use Rattle.std.proofs.Common.{take, drop, refl, sym, ap, ◌∙◌, subst, arith, IsUtf8, length-append, if◌then◌else◌}
use Rattle.std.proofs.Math.Seq.{take-add}
use Rattle.std.proofs.Math.Utf8.{encode, encodes, scalar, scalars}
use Rattle.std.proofs.lemmas.Bool.{eqb-true, and_parts}
use Rattle.std.proofs.lemmas.Grind.{get_or_tail}
use Rattle.std.proofs.lemmas.List.{take_at, drop_at, take-append-le, length-drop, get_or_append_left}
use Rattle.std.proofs.lemmas.Str.{IsUtf8-append, IsUtf8-nil, IsUtf8-take, IsUtf8-drop, IsUtf8-encode}
use Rattle.std.proofs.lemmas.Str.{IsCharBoundary-from_take, IsCharBoundary-after_ascii, length-encode, len_utf8_bounds}
use Rattle.std.specs.Str.{IsValidUpTo}
use Rattle.ipnet.specs.Lines.{lines_of, onto_first_line}
use Rattle.ipnet_text.proofs.ClosedLines.{IsClosed}

-- ---- what follows a text

-- what follows a text in a text is a text
pub text_after : (front rest : List ℕ) → IsUtf8 front → IsUtf8 (front ++ rest) → IsUtf8 rest
text_after front rest h all =
    let whole = front ++ rest in
    let same : take (length front) whole ≡ front = take_at front rest _ refl in
    subst IsUtf8 (drop_at front rest _ refl) (IsUtf8-drop whole (length front) all
    (IsCharBoundary-from_take whole (length front) all (omega (arith, length-append front rest))
    (subst IsUtf8 (sym same) h)))

-- ---- bytes that end with a line

onto_len : (b : ℕ) (lines : List (List ℕ)) → 0 < length lines → length (onto_first_line b lines) ≡ length lines
onto_len b [] some = absurd (omega arith)
onto_len b (line ∷ lines) some = refl

onto_some : (b : ℕ) (lines : List (List ℕ)) → 0 < length (onto_first_line b lines)
onto_some b [] = omega arith
onto_some b (line ∷ lines) = omega arith

some_lines : (b : ℕ) (text : List ℕ) → 0 < length (lines_of (b ∷ text))
some_lines b text = elim (b == 10)
    as (λ t. 0 < length (if t then [] ∷ lines_of text else onto_first_line b (lines_of text)))
    [ true ↦ omega arith | false ↦ onto_some b (lines_of text) ]

-- one byte: a byte after it is a line of its own only if this byte ends a line
one_ends : (b : ℕ) (t : Bool) → length (if t then [] ∷ (0 ∷ []) ∷ [] else onto_first_line b ((0 ∷ []) ∷ []))
    ≡ length (if t then [] ∷ [] else onto_first_line b []) + 1 → t ≡ true
one_ends b true h = refl
one_ends b false h = absurd (omega (arith, h))

-- the same after one byte more
step_ends : (b : ℕ) (t : Bool) (more rest : List (List ℕ)) → 0 < length more → 0 < length rest
    → length (if t then [] ∷ more else onto_first_line b more)
    ≡ length (if t then [] ∷ rest else onto_first_line b rest) + 1
    → length more ≡ length rest + 1
step_ends b true more rest m r h = omega (arith, h)
step_ends b false more rest m r h = omega (arith, h, onto_len b more m, onto_len b rest r)

ends : (text : List ℕ) (last : ℕ) → length text ≡ last + 1
    → length (lines_of (text ++ 0 ∷ [])) ≡ length (lines_of text) + 1 → get_or text last 0 ≡ 10
ends [] last size h = absurd (omega (arith, size))
ends (b ∷ []) last size h =
    let first : last ≡ 0 = omega (arith, size) in
    subst (λ k. get_or (b ∷ []) k 0 ≡ 10) (sym first) (eqb-true b 10 (one_ends b (b == 10) h))
ends (b ∷ c ∷ text) last size h =
    get_or_tail b (c ∷ text) last 0 (omega (arith, size))
    ∙ ends (c ∷ text) (last - 1) (omega (arith, size)) (step_ends b (b == 10) (lines_of ((c ∷ text) ++ 0 ∷ []))
    (lines_of (c ∷ text)) (some_lines c (text ++ 0 ∷ [])) (some_lines c text) h)

closed_ends : (text : List ℕ) (last : ℕ) → length text ≡ last + 1 → IsClosed text → get_or text last 0 ≡ 10
closed_ends text last size closed =
    ends text last size (ap length (closed (0 ∷ [])) ∙ length-append (lines_of text) ((0 ∷ []) ∷ []))

-- the lines at the front of a text are a text
pub closed_text : (text more : List ℕ) → IsClosed text → IsUtf8 (text ++ more) → IsUtf8 text
closed_text [] more closed all = IsUtf8-nil
closed_text (b ∷ text) more closed all =
    let front = b ∷ text in
    let whole = front ++ more in
    let last = length text in
    let here : get_or whole last 0 ≡ 10 =
    get_or_append_left front more 0 last (omega arith) ∙ closed_ends front last (omega arith) closed in
    subst IsUtf8 (take_at front more (last + 1) (omega arith)) (IsUtf8-take whole (last + 1) all
    (IsCharBoundary-after_ascii whole last all (omega (arith, length-append front more)) (omega (arith, here))))

-- ---- bytes at which no character begins

-- after the longest front in UTF-8, four bytes do not begin a character: they are not UTF-8, whatever follows them
pub no_text_behind : (bytes : List ℕ) (n : ℕ) (more : List ℕ) → IsValidUpTo bytes n → n + 4 ≤ length bytes
    → ¬ (IsUtf8 (drop n bytes ++ more))
no_text_behind bytes n more valid room ([], (are, spelled)) =
    absurd (omega (arith, room, ap length spelled, length-append (drop n bytes) more, length-drop n bytes))
no_text_behind bytes n more valid room (c ∷ cs, (are, spelled)) =
    let rest = drop n bytes in
    let char = encode c in
    let one = len_utf8_bounds c in
    let size = length-encode c in
    let fits : length char ≤ length rest = omega (arith, one.1, size, room, length-drop n bytes) in
    let begins : char ≡ take (length char) rest =
    sym (take_at char (encodes cs) _ refl) ∙ ap (take (length char)) spelled
    ∙ take-append-le (length char) rest more fits in
    let longer : take (n + length char) bytes ≡ take n bytes ++ char =
    take-add n (length char) bytes ∙ ap (λ z. take n bytes ++ z) (sym begins) in
    valid.longest (n + length char) (omega (arith, one.0, size)) (subst IsUtf8 (sym longer)
    (IsUtf8-append (take n bytes) char valid.front (IsUtf8-encode c (and_parts (scalar c) (scalars cs) are).0)))
