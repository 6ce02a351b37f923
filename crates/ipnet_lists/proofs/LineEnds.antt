-- The end of a line: bytes up to the first line feed, and bytes that have none.
use Rattle.std.proofs.Common.{◌≡◌, ◌≢◌, ℕ, ◌+◌, ◌-◌, ◌<◌, ◌≤◌, ◌==◌, false, List, [], ◌∷◌, ◌++◌, All}
use Rattle.std.proofs.Common.{length, take, drop, get_or, refl, sym, ap, ◌∙◌, arith, append_assoc}
use Rattle.std.proofs.Common.{if◌then◌else◌, eq-eqb, ne_eqb, eqb-true, get_or-take, length-take-le}
use Rattle.std.proofs.lemmas.List.{take_more, take-append-drop, take_rest}
use Rattle.std.proofs.lemmas.List.Elements.{All-head, All-tail, All-from_get_or}
use Rattle.memchr.specs.Find.{NoneBefore, Nowhere, Passes, is_byte}
use Rattle.ipnet.specs.Lines.{lines_of, onto_first_line}
use Rattle.ipnet_text.proofs.ClosedLines.{IsClosed}

-- bytes without the end of a line, and the end
pub ended : (line more : List ℕ) → All (λ b. b ≢ 10) line → lines_of (line ++ 10 ∷ more) ≡ line ∷ lines_of more
ended [] more none = refl
ended (b ∷ line) more none =
    let other : (b == 10) ≡ false = ne_eqb b 10 (All-head (λ b. b ≢ 10) b line none) in
    ap (λ t. if t then [] ∷ lines_of (line ++ 10 ∷ more) else onto_first_line b (lines_of (line ++ 10 ∷ more))) other
    ∙ ap (onto_first_line b) (ended line more (All-tail (λ b. b ≢ 10) b line none))

pub ended_closed : (line : List ℕ) → All (λ b. b ≢ 10) line → IsClosed (line ++ 10 ∷ [])
ended_closed line none more =
    ap lines_of (append_assoc line (10 ∷ []) more) ∙ ended line more none
    ∙ ap (λ z. z ++ lines_of more) (sym (ended line [] none))

-- bytes without the end of a line are one line, if there is one
pub only : (cur : List ℕ) → 0 < length cur → All (λ b. b ≢ 10) cur → lines_of cur ≡ cur ∷ []
only [] some none = absurd (omega arith)
only (b ∷ []) some none =
    ap (λ t. if t then [] ∷ [] else onto_first_line b []) (ne_eqb b 10 (All-head (λ b. b ≢ 10) b [] none))
only (b ∷ c ∷ cur) some none =
    ap (λ t. if t then [] ∷ lines_of (c ∷ cur) else onto_first_line b (lines_of (c ∷ cur)))
    (ne_eqb b 10 (All-head (λ b. b ≢ 10) b (c ∷ cur) none))
    ∙ ap (onto_first_line b) (only (c ∷ cur) (omega arith) (All-tail (λ b. b ≢ 10) b (c ∷ cur) none))

-- the bytes before the first end of a line
pub before_end : (bytes : List ℕ) (i : ℕ) → i ≤ length bytes
    → NoneBefore (Passes (is_byte 10) bytes) 0 (length bytes) i → All (λ b. b ≢ 10) (take i bytes)
before_end bytes i within before =
    All-from_get_or (λ b. b ≢ 10) (take i bytes) 0
    (λ k less. let below : k < i = omega (arith, length-take-le i bytes within) in
    λ e. before.before k (omega arith) below (eq-eqb (get_or bytes k 0) 10 (sym (get_or-take i bytes k 0 below) ∙ e)))

pub no_end : (bytes : List ℕ) → Nowhere (Passes (is_byte 10) bytes) 0 (length bytes) → All (λ b. b ≢ 10) bytes
no_end bytes none =
    All-from_get_or (λ b. b ≢ 10) bytes 0 (λ k less e. none k (omega arith) less (eq-eqb (get_or bytes k 0) 10 e))

-- the bytes up to and with it
pub to_end : (bytes : List ℕ) (i : ℕ) → i < length bytes → Passes (is_byte 10) bytes i
    → bytes ≡ (take i bytes ++ 10 ∷ []) ++ take (length bytes - (i + 1)) (drop (i + 1) bytes)
to_end bytes i within found =
    let ended : take (i + 1) bytes ≡ take i bytes ++ 10 ∷ [] =
    take_more bytes i 0 within ∙ ap (λ b. take i bytes ++ b ∷ []) (eqb-true (get_or bytes i 0) 10 found) in
    sym (take-append-drop (i + 1) bytes) ∙ ap (λ z. z ++ drop (i + 1) bytes) ended
    ∙ ap (λ z. (take i bytes ++ 10 ∷ []) ++ z) (sym (take_rest bytes (i + 1)))
