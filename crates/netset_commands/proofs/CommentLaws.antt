-- Titles that are split at a colon before a blank.
use Rattle.std.proofs.Common.{◌≡◌, ◌≤◌, ◌<◌, ◌==◌, ◌∙◌, ◌++◌, ◌⊎◌, ◌&&◌, Bool, true, false, not, ℕ, List, Some}
use Rattle.std.proofs.Common.{None, ap, arith, codes, drop, inl, inr, length, refl, sym, take}
use Rattle.std.proofs.lemmas.Bool.{cases_order}
use Rattle.std.proofs.lemmas.List.{drop_at, length-append, length-take, take-append-drop}
use Rattle.std.proofs.lemmas.Str.Pattern.{ends_text}
use Rattle.std.specs.List.{ends_with}
use Rattle.std.specs.Prelude.{MatchBool}
use Rattle.std.specs.Str.Pattern.{FindsText, FindsTextSuffix, HasSuffixMatch}
use Rattle.netset_commands.specs.Comments.{HasNoColon, IsSplitAtColon, ends_in_colon}

from_order : (a b : ℕ) → (a < b → ⊥) → (a ≡ b) ⊎ ((a < b) ⊎ (b < a)) → b ≤ a
from_order a b none (inl same) = omega (arith, same)
from_order a b none (inr (inl less)) = absurd (none less)
from_order a b none (inr (inr more)) = omega (arith, more)

-- if the text is found, it is split
pub split_here : (text front : List ℕ) (i j : ℕ) (rest : List ℕ) → FindsText (codes ": ") text (Some (i, j))
    → front ≡ take i text → rest ≡ drop j text → IsSplitAtColon text front rest
split_here text front i j rest found front_is rest_is = record {
  parts = sym (take-append-drop i text)
      ∙ ap (λ z. take i text ++ z) found.1.split ∙ (λ k. sym front_is k ++ (codes ": " ++ sym rest_is k));
  first = λ before after e.
      let none : length before < i → ⊥ = λ less. found.0 (length before) less after
      (ap (drop (length before)) e ∙ drop_at before (codes ": " ++ after) (length before) refl) in
      let after_i = from_order (length before) i none (cases_order (length before) i) in
      omega (arith, after_i, ap length front_is, length-take i text);
}

-- if it is not found, there is none
pub none_here : (text : List ℕ) → FindsText (codes ": ") text None → HasNoColon text
none_here text none before after e =
    none (length before) (omega (arith, ap length e, length-append before (codes ": " ++ after))) after
    (ap (drop (length before)) e ∙ drop_at before (codes ": " ++ after) (length before) refl)

-- a text that ends with a colon, and perhaps with two
pub after_one : (text : List ℕ) (one two : Bool)
    → MatchBool one (HasSuffixMatch (FindsTextSuffix (codes ":")) text) (FindsTextSuffix (codes ":") text None)
    → one ≡ true
    → MatchBool two (HasSuffixMatch (FindsTextSuffix (codes "::")) text) (FindsTextSuffix (codes "::") text None)
    → not two ≡ ends_in_colon text
after_one text one two h is k =
    sym (λ i. (sym (ends_text one (codes ":") text h) ∙ is) i && not (sym (ends_text two (codes "::") text k) i))

-- a text that does not end with a colon
pub after_none : (text : List ℕ) (one : Bool)
    → MatchBool one (HasSuffixMatch (FindsTextSuffix (codes ":")) text) (FindsTextSuffix (codes ":") text None)
    → one ≡ false → one ≡ ends_in_colon text
after_none text one h is =
    is ∙ sym (ap (λ z. z && not (ends_with (λ a b. a == b) text (codes "::")))
    (sym (ends_text one (codes ":") text h) ∙ is))
