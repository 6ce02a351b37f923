-- Prefix lengths as texts.
use Rattle.std.proofs.Common.{◌≡◌, ◌≢◌, ◌↔◌, ℕ, List, ◌∷◌, true, false, sym, ◌∙◌, subst}
use Rattle.std.proofs.Common.{Option, Some, None, Bor, inl, inr}
use Rattle.std.specs.Char.{is_ascii_digit}
use Rattle.std.specs.List.{list_all}
use Rattle.std.specs.Option.{MatchOption}
use Rattle.ipnet.specs.Numerals.{IsDecimal}
use Rattle.ipnet.specs.declared.parser.Grammar.TheVariants.{Strict}
use Rattle.netset_lib.specs.PlanAnswers.{IsLengthText}
use Rattle.ipnet_lists.proofs.CauseTexts.{same_digits, digits_model}

-- a number has only decimal digits
pub number_digits : (most greatest : ℕ) (text : List ℕ) (n : ℕ) → IsDecimal Strict most greatest text n
    → list_all is_ascii_digit text ≡ true
number_digits most greatest text n h = same_digits text ∙ digits_model.from text h.digits.1

-- ---- a "/" before the digits

no_slash : (digits : List ℕ) (n : ℕ) → ¬ (IsDecimal Strict 3 128 (47 ∷ digits) n)
no_slash digits n h = let clash : true ≡ false = sym (number_digits 3 128 (47 ∷ digits) n h) in absurd cc

pub length_after : (text digits : List ℕ) (r : Option ℕ) (n : ℕ) → text ≡ 47 ∷ digits
    → ((r ≡ Some n) ↔ IsDecimal Strict 3 128 digits n) → (r ≡ Some n) ↔ IsLengthText text n
length_after text digits r n is same = (λ e. inr (digits, is, same.0 e), back)
  where
    back : IsLengthText text n → r ≡ Some n
    back (inl h) = absurd (no_slash digits n (subst (λ t. IsDecimal Strict 3 128 t n) is h))
    back (inr (ds, e, h)) =
        let both : 47 ∷ ds ≡ 47 ∷ digits = sym e ∙ is in
        let one : ds ≡ digits = cc in
        same.1 (subst (λ t. IsDecimal Strict 3 128 t n) one h)

pub length_plain : (text : List ℕ) (r : Option ℕ) (n : ℕ) → ((rest : List ℕ) → text ≢ 47 ∷ rest)
    → ((r ≡ Some n) ↔ IsDecimal Strict 3 128 text n) → (r ≡ Some n) ↔ IsLengthText text n
length_plain text r n none same = (λ e. inl (same.0 e), back)
  where
    back : IsLengthText text n → r ≡ Some n
    back (inl h) = same.1 h
    back (inr (ds, e, h)) = absurd (none ds e)

-- ---- what `strip_prefix` returns

abbrev IsStripped : List ℕ → Option (Bor (List ℕ)) → Type 0
IsStripped text r = MatchOption r ((rest : List ℕ) → text ≢ 47 ∷ rest) (λ x. text ≡ 47 ∷ x.now)

pub stripped : (text : List ℕ) (r : Option (Bor (List ℕ))) (x : Bor (List ℕ)) → IsStripped text r → r ≡ Some x
    → text ≡ 47 ∷ x.now
stripped text (Some y) x h e = let one : y ≡ x = cc in subst (λ z. text ≡ 47 ∷ z.now) one h
stripped text None x h e = absurd cc

pub not_stripped : (text : List ℕ) (r : Option (Bor (List ℕ))) → IsStripped text r → r ≡ None → (rest : List ℕ)
    → text ≢ 47 ∷ rest
not_stripped text (Some y) h e rest = absurd cc
not_stripped text None h e rest = h rest
