-- The first line of a text, as `split_once` cuts it.
use Rattle.std.proofs.Common.{◌≡◌, ℕ, zero, suc, refl, ◌<◌, true, false, List, [], ◌∷◌, length, get_or, take}
use Rattle.std.proofs.Common.{drop, ◌==◌, sym, ap, ◌∙◌, arith, add-one, eq-eqb, eqb-true}
use Rattle.std.specs.List.{position_or_len, before_first, after_first}
use Rattle.std.proofs.lemmas.List.Sums.{fails_before_first, passes_at_first}
use Rattle.ipnet.specs.Lines.{lines_of}
use Rattle.ipnet.proofs.LineLaws.{lines_at, last_line}

-- no byte before the first that ends a line ends one
none_before : (text : List ℕ) (k : ℕ) → k < position_or_len (λ b. b == 10) text → get_or text k 0 ≡ 10 → ⊥
none_before text k less e =
    let clash : true ≡ false = sym (eq-eqb (get_or text k 0) 10 e) ∙ fails_before_first (λ b. b == 10) text k 0 less in
    absurd cc

-- a text with an end of line is its first line, and the lines after that end
pub first_cut : (text : List ℕ) → position_or_len (λ b. b == 10) text < length text
    → lines_of text ≡ before_first (λ b. b == 10) text ∷ lines_of (after_first (λ b. b == 10) text)
first_cut text within =
    let i = position_or_len (λ b. b == 10) text in
    let found : get_or text i 0 ≡ 10 = eqb-true (get_or text i 0) 10 (passes_at_first (λ b. b == 10) text 0 within) in
    lines_at text i within (λ k less e. none_before text k less e) found
    ∙ ap (λ n. take i text ∷ lines_of (drop n text)) (sym (add-one i))

-- a text with no end of line, that is not empty, is one line
pub no_cut : (text : List ℕ) → 0 < length text → position_or_len (λ b. b == 10) text ≡ length text
    → lines_of text ≡ text ∷ []
no_cut text some none = last_line text some (λ k less e. none_before text k (omega (arith, none)) e)

-- what the test for no bytes says
pub some_bytes : (n : ℕ) → false ≡ (n == 0) → 0 < n
some_bytes zero e = let clash : false ≡ true = e in absurd cc
some_bytes (suc n) e = omega arith

pub no_bytes : (n : ℕ) → true ≡ (n == 0) → n ≡ 0
no_bytes n e = eqb-true n 0 (sym e)

pub empty_text : (text : List ℕ) → length text ≡ 0 → text ≡ []
empty_text [] e = refl
empty_text (b ∷ text) e = absurd (omega arith)
