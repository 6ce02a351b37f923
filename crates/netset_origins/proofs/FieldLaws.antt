-- The fields of a line.
use Rattle.std.proofs.Common.{◌≡◌, ◌↔◌, ℕ, ◌+◌, ◌-◌, ◌<◌, ◌≤◌, ◌==◌, List, [], ◌∷◌, length, take, drop, get_or}
use Rattle.std.proofs.Common.{sym, ap, ◌∙◌, subst, arith, inl, inr, true, false, refl, Option, Some}
use Rattle.std.proofs.Common.{length-drop}
use Rattle.std.specs.List.{position_or_len}
use Rattle.std.specs.Str.{IsUtf8}
use Rattle.std.proofs.lemmas.Bool.{false_from_ne_true}
use Rattle.std.proofs.lemmas.List.Elements.{All-weaker}
use Rattle.std.proofs.lemmas.List.Sums.{position_or_len_is}
use Rattle.std.proofs.lemmas.Str.Ascii.{IsAscii-from_all}
use Rattle.std.proofs.lemmas.Str.{IsUtf8-from_ascii}
use Rattle.memchr.specs.Find.{NoneBefore, Nowhere, Passes, is_byte}
use Rattle.ipnet_lists.proofs.AddressBytes.{IsAddressByte, decimal_bytes}
use Rattle.ipnet_lists.proofs.CommentLaws.{behind}
use Rattle.netset_lib.proofs.LengthTexts.{number_digits}
use Rattle.netset_origins.specs.Fields.{after_field, IsNumber, IsAsn}

-- ---- what follows the first field

place : (text : List ℕ) (i : ℕ) → NoneBefore (Passes (is_byte 44) text) 0 (length text) i
    → Passes (is_byte 44) text i → position_or_len (λ b. b == 44) text ≡ i
place text i before found =
    position_or_len_is (λ b. b == 44) text i 0 (omega (arith, before.high))
    (λ k less. false_from_ne_true (get_or text k 0 == 44) (before.before k (omega arith) less)) (λ less. found)

pub rest_at : (text : List ℕ) (i : ℕ) → NoneBefore (Passes (is_byte 44) text) 0 (length text) i
    → Passes (is_byte 44) text i → take (length text - (i + 1)) (drop (i + 1) text) ≡ after_field text
rest_at text i before found =
    behind text (i + 1) ∙ ap (λ k. drop (k + 1) text) (sym (place text i before found))

none_after : (text : List ℕ) (k : ℕ) → length text ≤ k → drop k text ≡ []
none_after text k past = empty (drop k text) (omega (arith, past, length-drop k text))
  where
    empty : (rest : List ℕ) → length rest ≤ 0 → rest ≡ []
    empty [] h = refl
    empty (b ∷ rest) h = absurd (omega (arith, h))

pub rest_nowhere : (text : List ℕ) → Nowhere (Passes (is_byte 44) text) 0 (length text)
    → take (length text - length text) (drop (length text) text) ≡ after_field text
rest_nowhere text none =
    behind text (length text) ∙ none_after text (length text) (omega arith)
    ∙ sym (none_after text (position_or_len (λ b. b == 44) text + 1) (omega (arith, whole)))
  where
    whole : position_or_len (λ b. b == 44) text ≡ length text
    whole = position_or_len_is (λ b. b == 44) text (length text) 0 (omega arith)
        (λ k less. false_from_ne_true (get_or text k 0 == 44) (none k (omega arith) less))
        (λ less. absurd (omega (arith, less)))

-- ---- numbers

pub number_utf8 : (text : List ℕ) (n : ℕ) → IsNumber text n → IsUtf8 text
number_utf8 text n h =
    IsUtf8-from_ascii text
    (IsAscii-from_all text
    (All-weaker IsAddressByte (λ b. b < 128) (λ b is. is.ascii) text (decimal_bytes text h.digits.1)))

-- ---- AS numbers

-- a number does not begin with a letter
no_letters : (digits : List ℕ) (n : ℕ) → ¬ (IsNumber (65 ∷ 83 ∷ digits) n)
no_letters digits n h =
    let clash : true ≡ false = sym (number_digits 10 4294967295 (65 ∷ 83 ∷ digits) n h) in absurd cc

pub asn_after : (text digits : List ℕ) (r : Option ℕ) (n : ℕ) → text ≡ 65 ∷ 83 ∷ digits
    → ((r ≡ Some n) ↔ IsNumber digits n) → (r ≡ Some n) ↔ IsAsn text n
asn_after text digits r n is same = (λ e. inr (digits, is, same.0 e), back)
  where
    back : IsAsn text n → r ≡ Some n
    back (inl h) = absurd (no_letters digits n (subst (λ t. IsNumber t n) is h))
    back (inr (ds, e, h)) =
        let both : 65 ∷ 83 ∷ ds ≡ 65 ∷ 83 ∷ digits = sym e ∙ is in
        let one : ds ≡ digits = cc in
        same.1 (subst (λ t. IsNumber t n) one h)

pub asn_plain : (text : List ℕ) (r : Option ℕ) (n : ℕ) → ((digits : List ℕ) → ¬ (text ≡ 65 ∷ 83 ∷ digits))
    → ((r ≡ Some n) ↔ IsNumber text n) → (r ≡ Some n) ↔ IsAsn text n
asn_plain text r n none same = (λ e. inl (same.0 e), back)
  where
    back : IsAsn text n → r ≡ Some n
    back (inl h) = same.1 h
    back (inr (ds, e, h)) = absurd (none ds e)
