-- The answers to the entries of a list, one after another, and the entries that decide the status.
use Rattle.std.specs.Prelude.{◌≡◌, ◌⊎◌, Bool, false, IsTrue, ℕ, List, [], ◌∷◌, ◌++◌, Any, All}
use Rattle.ipnet_lists.specs.Lists.{ListEntry}

-- The text is an answer to each entry, in order. Example: `10.0.0.1 10.0.0.0/8`, `::1 -` for the entries 10.0.0.1 and
-- ::1 of a route.
abbrev pub AreAnswers : (ListEntry → List ℕ → Type 0) → List ListEntry → List ℕ → Type 0
AreAnswers IsAnswerTo [] text = text ≡ []
AreAnswers IsAnswerTo (e ∷ entries) text =
    (line : List ℕ) × (rest : List ℕ) × (text ≡ line ++ rest) × IsAnswerTo e line
    × AreAnswers IsAnswerTo entries rest

-- Whether one of the entries has the property.
abbrev pub IsFoundIn : (ListEntry → Type 0) → Bool → List ListEntry → Type 0
IsFoundIn Has found entries =
    (IsTrue found × Any Has entries) ⊎ ((found ≡ false) × All (λ e. ¬ (Has e)) entries)
