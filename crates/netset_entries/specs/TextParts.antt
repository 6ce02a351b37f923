-- Texts that consist of a part for each number of a row of numbers.
use Rattle.std.specs.Prelude.{◌≡◌, ℕ, zero, suc, ◌+◌, List, [], ◌++◌}

-- The text is a part for each of `n` numbers, from `i` on, in order.
unfoldable pub AreTextParts : (ℕ → List ℕ → Type 0) → ℕ → ℕ → List ℕ → Type 0
AreTextParts IsPart i zero text = text ≡ []
AreTextParts IsPart i (suc n) text =
    (part : List ℕ) × (rest : List ℕ) × (text ≡ part ++ rest) × IsPart i part × AreTextParts IsPart (i + 1) n rest
