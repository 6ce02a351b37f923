-- The words of a line, cut from its front.
use Rattle.std.proofs.Common.{◌≡◌, ℕ, Bool, zero, suc, ◌<◌, ◌≤◌, true, false, List, [], ◌∷◌, ◌++◌, length, get_or, take}
use Rattle.std.proofs.Common.{drop, refl, sym, ap, ◌∙◌, arith, if◌then◌else◌, append_assoc, subst, ◌≢◌, ◌-◌, add-zero}
use Rattle.std.proofs.Common.{length-append}
use Rattle.std.proofs.lemmas.List.{take_all, take_rest, length-drop, get_or-drop}
use Rattle.std.proofs.Math.Seq.{take-append_seam, drop-append_seam}
use Rattle.netset_words.specs.Words.{Word, cuts, first_gap, letter_before, after_cut, onto_word, after_byte, words_of}

-- the words of a line that begins with a byte of this kind
after_gap : (b : ℕ) (line : List ℕ) → cuts b ≡ true → words_of (b ∷ line) ≡ after_cut b (words_of line)
after_gap b line is = ap (λ t. if t then after_cut b (words_of line) else after_byte b (words_of line)) is

after_letter : (b : ℕ) (line : List ℕ) → cuts b ≡ false → words_of (b ∷ line) ≡ after_byte b (words_of line)
after_letter b line is = ap (λ t. if t then after_cut b (words_of line) else after_byte b (words_of line)) is

-- a word of one byte before words that follow a cut
before_cut : (b c : ℕ) (words : List Word) → after_byte b (after_cut c words) ≡ letter_before b (after_cut c words)
before_cut b c [] = refl
before_cut b c (w ∷ words) = refl

one_letter : (b : ℕ) (line : List ℕ) → (0 < length line → cuts (get_or line 0 0) ≡ true)
    → after_byte b (words_of line) ≡ letter_before b (words_of line)
one_letter b [] next = refl
one_letter b (c ∷ line) next =
    let is = after_gap c line (next (omega arith)) in
    ap (after_byte b) is ∙ before_cut b c (words_of line) ∙ ap (letter_before b) (sym is)

-- a word before the words of a rest
abbrev pub onto_rest : (before text rest : List ℕ) → List Word
onto_rest before text rest =
    record { before = before; text = text; after = first_gap (words_of rest) } ∷ words_of rest

-- a word at the front
pub word_front : (len : ℕ) (line : List ℕ) → 0 < len → len ≤ length line
    → ((k : ℕ) → k < len → cuts (get_or line k 0) ≡ false) → (len < length line → cuts (get_or line len 0) ≡ true)
    → words_of line ≡ onto_rest [] (take len line) (drop len line)
word_front zero line some within letters next = absurd (omega arith)
word_front (suc n) [] some within letters next = absurd (omega arith)
word_front (suc zero) (b ∷ line) some within letters next =
    after_letter b line (letters 0 (omega arith)) ∙ one_letter b line (λ less. next (omega (arith, less)))
word_front (suc (suc n)) (b ∷ line) some within letters next =
    after_letter b line (letters 0 (omega arith))
    ∙ ap (after_byte b) (word_front (suc n) line (omega arith) (omega (arith, within))
    (λ k less. letters (suc k) (omega (arith, less))) (λ less. next (omega (arith, less))))

-- with cuts before it
gap_front : (gap : ℕ) (line text rest : List ℕ) → gap ≤ length line
    → ((k : ℕ) → k < gap → cuts (get_or line k 0) ≡ true) → words_of (drop gap line) ≡ onto_rest [] text rest
    → words_of line ≡ onto_rest (take gap line) text rest
gap_front zero line text rest within cut is = is
gap_front (suc n) [] text rest within cut is = absurd (omega arith)
gap_front (suc n) (b ∷ line) text rest within cut is =
    after_gap b line (cut 0 (omega arith))
    ∙ ap (after_cut b) (gap_front n line text rest (omega (arith, within))
    (λ k less. cut (suc k) (omega (arith, less))) is)

-- nothing but cuts
gap_only : (line : List ℕ) → ((k : ℕ) → k < length line → cuts (get_or line k 0) ≡ true) → words_of line ≡ []
gap_only [] cut = refl
gap_only (b ∷ line) cut =
    after_gap b line (cut 0 (omega arith))
    ∙ ap (after_cut b) (gap_only line (λ k less. cut (suc k) (omega (arith, less))))

-- ---- as the code cuts

-- nothing is after the gap
pub gap_is_all : (bytes rest : List ℕ) (gap : ℕ) → rest ≡ take (length bytes - gap) (drop gap bytes)
    → gap ≤ length bytes → ((k : ℕ) → k < gap → cuts (get_or bytes k 0) ≡ true) → length rest ≡ 0
    → words_of bytes ≡ []
gap_is_all bytes rest gap is within cut none =
    let size : length bytes - gap ≡ 0 =
    omega (arith, none, ap length (is ∙ take_rest bytes gap), length-drop gap bytes) in
    gap_only bytes (λ k less. cut k (omega (arith, size, less)))

-- a word after the gap
word_at : (bytes : List ℕ) (gap len : ℕ) → gap ≤ length bytes
    → ((k : ℕ) → k < gap → cuts (get_or bytes k 0) ≡ true) → cuts (get_or bytes gap 0) ≡ false
    → length (drop gap bytes) ≢ 0 → len ≤ length (drop gap bytes)
    → ((k : ℕ) → k < len → cuts (get_or (drop gap bytes) k 0) ≡ false)
    → (len < length (drop gap bytes) → cuts (get_or (drop gap bytes) len 0) ≡ true)
    → words_of bytes ≡ onto_rest (take gap bytes) (take len (drop gap bytes)) (drop len (drop gap bytes))
word_at bytes gap zero within cut letter some fits letters next =
    let at : get_or (drop gap bytes) 0 0 ≡ get_or bytes gap 0 =
    get_or-drop gap bytes 0 0 ∙ ap (λ n. get_or bytes n 0) (add-zero gap) in
    let is : true ≡ false = sym (next (omega (arith, some))) ∙ ap cuts at ∙ letter in
    absurd cc
word_at bytes gap (suc n) within cut letter some fits letters next =
    gap_front gap bytes (take (suc n) (drop gap bytes)) (drop (suc n) (drop gap bytes)) within cut
    (word_front (suc n) (drop gap bytes) (omega arith) fits letters next)

pub word_cut : (bytes rest : List ℕ) (gap len : ℕ) → rest ≡ take (length bytes - gap) (drop gap bytes)
    → gap ≤ length bytes → ((k : ℕ) → k < gap → cuts (get_or bytes k 0) ≡ true)
    → (gap < length bytes → cuts (get_or bytes gap 0) ≡ false) → length rest ≢ 0 → len ≤ length rest
    → ((k : ℕ) → k < len → cuts (get_or rest k 0) ≡ false) → (len < length rest → cuts (get_or rest len 0) ≡ true)
    → words_of bytes ≡ onto_rest (take gap bytes) (take len rest) (take (length rest - len) (drop len rest))
word_cut bytes rest gap len cut_so within cut letter some fits letters next =
    let is : rest ≡ drop gap bytes = cut_so ∙ take_rest bytes gap in
    let size = ap length is in
    let less : gap < length bytes = omega (arith, some, size, length-drop gap bytes, within) in
    subst (λ r. words_of bytes ≡ onto_rest (take gap bytes) (take len r) (take (length r - len) (drop len r))) (sym is)
    (word_at bytes gap len within cut (letter less) (λ none. some (size ∙ none)) (omega (arith, fits, size))
    (subst (λ r. (k : ℕ) → k < len → cuts (get_or r k 0) ≡ false) is letters)
    (subst (λ r. len < length r → cuts (get_or r len 0) ≡ true) is next)
    ∙ ap (onto_rest (take gap bytes) (take len (drop gap bytes))) (sym (take_rest (drop gap bytes) len)))

-- the text between two parts of bytes
between : (front text back : List ℕ) (n : ℕ) → n ≡ length text → take n (drop (length front) (front ++ (text ++ back)))
    ≡ text
between front text back n is =
    ap (take n) (drop-append_seam front (text ++ back)) ∙ ap (λ k. take k (text ++ back)) is
    ∙ take-append_seam text back

-- three words, with the bytes between them
pub span_cut : (bytes before first rest dash_before dash others last_before last after : List ℕ)
    → bytes ≡ before ++ (first ++ rest) → rest ≡ dash_before ++ (dash ++ others)
    → others ≡ last_before ++ (last ++ after)
    → take ((length bytes - length after) - length before) (drop (length before) bytes)
    ≡ first ++ dash_before ++ dash ++ last_before ++ last
span_cut bytes before first rest dash_before dash others last_before last after is next more =
    let text = first ++ dash_before ++ dash ++ last_before ++ last in
    let joined : first ++ rest ≡ text ++ after =
    ap (λ z. first ++ z) (next ∙ ap (λ z. dash_before ++ (dash ++ z)) more)
    ∙ sym (append_assoc (first ++ dash_before ++ dash ++ last_before) last after
    ∙ append_assoc (first ++ dash_before ++ dash) last_before (last ++ after)
    ∙ append_assoc (first ++ dash_before) dash (last_before ++ (last ++ after))
    ∙ append_assoc first dash_before (dash ++ (last_before ++ (last ++ after)))) in
    let all : bytes ≡ before ++ (text ++ after) = is ∙ ap (λ z. before ++ z) joined in
    let size : (length bytes - length after) - length before ≡ length text =
    omega (arith, ap length all, length-append before (text ++ after), length-append text after) in
    ap (λ z. take ((length bytes - length after) - length before) (drop (length before) z)) all
    ∙ between before text after ((length bytes - length after) - length before) size

-- ---- the bytes before the first word

no_gap_onto : (b : ℕ) (before : List ℕ) (w : Word) (words : List Word) → first_gap (onto_word b before w words) ≡ []
no_gap_onto b [] w words = refl
no_gap_onto b (c ∷ before) w words = refl

no_gap : (b : ℕ) (words : List Word) → first_gap (after_byte b words) ≡ []
no_gap b [] = refl
no_gap b (w ∷ words) = no_gap_onto b w.before w words

cut_gap : (b : ℕ) (line rest : List ℕ) (words : List Word) → line ≡ first_gap words ++ rest
    → (more : List ℕ) × ((b ∷ line) ≡ first_gap (after_cut b words) ++ more)
cut_gap b line rest [] is = (b ∷ line, refl)
cut_gap b line rest (w ∷ words) is = (rest, ap (λ z. b ∷ z) is)

first_front : (b : ℕ) (line rest : List ℕ) (t : Bool) → cuts b ≡ t → line ≡ first_gap (words_of line) ++ rest
    → (more : List ℕ) × ((b ∷ line) ≡ first_gap (words_of (b ∷ line)) ++ more)
first_front b line rest true e is =
    let more = cut_gap b line rest (words_of line) is in
    (more.0, more.1 ∙ ap (λ z. first_gap z ++ more.0) (sym (after_gap b line e)))
first_front b line rest false e is =
    (b ∷ line, ap (λ z. z ++ (b ∷ line)) (sym (ap first_gap (after_letter b line e) ∙ no_gap b (words_of line))))

front_gap : (bytes : List ℕ) → (rest : List ℕ) × (bytes ≡ first_gap (words_of bytes) ++ rest)
front_gap [] = ([], refl)
front_gap (b ∷ line) = let (rest, is) = front_gap line in first_front b line rest (cuts b) refl is

pub gap_is_front : (bytes gap : List ℕ) → first_gap (words_of bytes) ≡ gap → take (length gap) bytes ≡ gap
gap_is_front bytes gap is =
    let (rest, cut) = front_gap bytes in
    ap (take (length gap)) (cut ∙ ap (λ z. z ++ rest) is) ∙ take-append_seam gap rest

-- bytes that are too few
pub no_front : (bytes front : List ℕ) → length bytes < length front → take (length front) bytes ≡ front → ⊥
no_front bytes front few is =
    let all = take_all (length front) bytes (omega (arith, few)) in
    omega (arith, few, ap length (sym all ∙ is))
