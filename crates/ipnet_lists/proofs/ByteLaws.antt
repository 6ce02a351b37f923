-- Whether a byte is among the bytes of a text.
use Rattle.std.proofs.Common.{◌≡◌, ◌≢◌, ℕ, ◌==◌, true, false, List, All, length, get_or}
use Rattle.std.proofs.Common.{sym, ap, ◌∙◌, arith, ne_eqb}
use Rattle.std.specs.Char.{is_ascii_whitespace}
use Rattle.std.specs.List.{list_any}
use Rattle.std.proofs.lemmas.Bool.{false_from_ne_true}
use Rattle.std.proofs.lemmas.List.Elements.{All-from_get_or, All-weaker}
use Rattle.std.proofs.lemmas.List.Folds.{list_any_at, list_any_none}
use Rattle.memchr.specs.Find.{NoneBefore, Nowhere, Passes, is_byte}
use Rattle.ipnet_lists.specs.Entries.{HasReturn}
use Rattle.ipnet_lists.proofs.AddressBytes.{IsPlainByte}

pub found_byte : (c : ℕ) (text : List ℕ) (i : ℕ) → NoneBefore (Passes (is_byte c) text) 0 (length text) i
    → Passes (is_byte c) text i → list_any (λ b. b == c) text ≡ true
found_byte c text i before found = list_any_at (λ b. b == c) text i 0 before.high found

pub no_byte : (c : ℕ) (text : List ℕ) → Nowhere (Passes (is_byte c) text) 0 (length text)
    → list_any (λ b. b == c) text ≡ false
no_byte c text none =
    list_any_none (λ b. b == c) text
    (All-from_get_or (λ b. (b == c) ≡ false) text 0
    (λ k less. false_from_ne_true (get_or text k 0 == c) (none k (omega arith) less)))

-- ---- carriage returns

-- no byte of the text is one
no_return : (text : List ℕ) → All (λ b. b ≢ 13) text → ¬ (HasReturn text)
no_return text h has =
    let none : list_any (λ b. b == 13) text ≡ false =
    list_any_none (λ b. b == 13) text
    (All-weaker (λ b. b ≢ 13) (λ b. (b == 13) ≡ false) (λ b is. ne_eqb b 13 is) text h) in
    let clash : true ≡ false = sym has ∙ none in
    absurd cc

-- it is a blank
pub plain_no_return : (text : List ℕ) → All IsPlainByte text → ¬ (HasReturn text)
plain_no_return text h =
    no_return text
    (All-weaker IsPlainByte (λ b. b ≢ 13)
    (λ b is e. let clash : true ≡ false = sym (ap is_ascii_whitespace e) ∙ is.no_blank in absurd cc) text h)
