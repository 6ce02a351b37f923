-- The parts of the name of an unfinished file.
use Rattle.std.proofs.Common.{◌≡◌, ◌∷◌, ◌++◌, List, ℕ, sym, ap, ◌∙◌}
use Rattle.std.proofs.lemmas.List.{append_cancel_left}

-- an entry that begins with "." (46) and a name
pub name_cut : (entry name bytes text rest after : List ℕ) → bytes ≡ entry → text ≡ name → bytes ≡ 46 ∷ rest
    → rest ≡ text ++ after → entry ≡ 46 ∷ (name ++ after)
name_cut entry name bytes text rest after same same_name dot cut =
    sym same ∙ dot ∙ ap (λ z. 46 ∷ z) (cut ∙ ap (λ z. z ++ after) same_name)

-- what follows there is one text
pub after_name : (entry name after other : List ℕ) → entry ≡ 46 ∷ (name ++ after) → entry ≡ 46 ∷ (name ++ other)
    → after ≡ other
after_name entry name after other h k = append_cancel_left (46 ∷ name) after other (sym h ∙ k)
