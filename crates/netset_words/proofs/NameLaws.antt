-- Names, ports and signs at the front of a text.
use Rattle.std.proofs.Common.{◌≡◌, ◌&&◌, ℕ, Bool, false, List, [], ◌∷◌, length, refl}
use Rattle.std.proofs.Common.{ap, ◌∙◌, arith}
use Rattle.std.specs.Char.{is_ascii_alphabetic}
use Rattle.std.specs.List.{list_all}
use Rattle.netset_words.specs.Places.{begins_with_slash, is_name, is_name_byte}

pub name_cut : (text : List ℕ) (b : ℕ) (rest : List ℕ) (letter : Bool) → text ≡ b ∷ rest
    → is_ascii_alphabetic b ≡ letter → is_name text ≡ (letter && list_all is_name_byte rest)
name_cut text b rest letter is e = ap is_name is ∙ ap (λ t. t && list_all is_name_byte rest) e

pub no_name : (text : List ℕ) → length text ≡ 0 → is_name text ≡ false
no_name [] none = refl
no_name (b ∷ text) none = absurd (omega (arith, none))

pub no_slash : (text : List ℕ) → length text ≡ 0 → begins_with_slash text ≡ false
no_slash [] none = refl
no_slash (b ∷ text) none = absurd (omega (arith, none))
