-- Texts of parts, one part more, and in other words.
use Rattle.std.proofs.Common.{◌≡◌, ℕ, zero, suc, ◌+◌, List, [], ◌++◌, refl, sym, ap, ◌∙◌, subst, arith}
use Rattle.std.proofs.Common.{append_assoc, append-nil}
use Rattle.netset_entries.specs.TextParts.{AreTextParts}

pub no_parts : (Is : ℕ → List ℕ → Type 0) (i : ℕ) → AreTextParts Is i 0 []
unfolding AreTextParts
no_parts Is i = refl

parts_push : (Is : ℕ → List ℕ → Type 0) (i n j : ℕ) (text part : List ℕ) → AreTextParts Is i n text → i + n ≡ j
    → Is j part → AreTextParts Is i (suc n) (text ++ part)
unfolding AreTextParts
parts_push Is i zero j text part h at is =
    let same : i ≡ j = omega (arith, at) in (
      part,
      [],
      ap (λ z. z ++ part) h ∙ sym (append-nil part),
      subst (λ z. Is z part) (sym same) is,
      refl,
    )
parts_push Is i (suc n) j text part (first, rest, cut, here, h) at is = (
  first,
  rest ++ part,
  ap (λ z. z ++ part) cut ∙ append_assoc first rest part,
  here,
  parts_push Is (i + 1) n j rest part h (omega (arith, at)) is,
)

-- one part more, at the next number
pub parts_more : (Is : ℕ → List ℕ → Type 0) (i n j m : ℕ) (text part : List ℕ) → AreTextParts Is i n text → i + n ≡ j
    → n + 1 ≡ m → Is j part → AreTextParts Is i m (text ++ part)
parts_more Is i n j m text part h at next is =
    let same : suc n ≡ m = omega (arith, next) in
    subst (λ z. AreTextParts Is i z (text ++ part)) same (parts_push Is i n j text part h at is)

pub parts_weaker : (Is Other : ℕ → List ℕ → Type 0) → ((i : ℕ) (part : List ℕ) → Is i part → Other i part)
    → (i n : ℕ) (text : List ℕ) → AreTextParts Is i n text → AreTextParts Other i n text
unfolding AreTextParts
parts_weaker Is Other weaker i zero text h = h
parts_weaker Is Other weaker i (suc n) text (first, rest, cut, here, h) =
    (first, rest, cut, weaker i first here, parts_weaker Is Other weaker (i + 1) n rest h)
