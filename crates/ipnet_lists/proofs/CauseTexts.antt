-- Why a text is not an entry.
use Rattle.std.proofs.Common.{◌≡◌, ◌≢◌, ◌↔◌, ℕ, ◌<◌, ◌^◌, List, [], ◌∷◌, length, true, false, Bool, IsTrue}
use Rattle.std.proofs.Common.{◌&&◌, refl, sym, ap, ◌∙◌, subst, arith, inl, inr}
use Rattle.std.proofs.Common.{Option, Some, None, IfSome, Result, Err}
use Rattle.std.proofs.lemmas.Bool.{cases_lt}
use Rattle.std.proofs.lemmas.Str.Parse.{IsNumeralModel, numerals_by_value, tells_all_ascii_digits, parse_digits}
use Rattle.std.specs.Char.{is_ascii_digit}
use Rattle.std.specs.List.{list_all}
use Rattle.std.specs.Result.{OkIff}
use Rattle.std.specs.Str.{all_ascii_digits}
use Rattle.std.specs.Str.Parse.{digits_value, ParsesUnsigned}
use Rattle.ipnet_base.specs.Address.{Family, Address, IPv4}
use Rattle.ipnet.specs.declared.parser.Grammar.{Grammar}
use Rattle.ipnet.specs.declared.parser.Grammar.TheVariants.{Legacy}
use Rattle.ipnet_lists.specs.declared.cause.Cause.{Cause}
use Rattle.ipnet_lists.specs.Causes.{AreAddresses, IsReportedCause, IsMaskNumber, IsMaskText, IsOfFamily, WritesAbove}
use Rattle.ipnet_lists.specs.CauseSteps.{WriteEnds}
use Rattle.ipnet_lists.specs.Entries.{IsAddressText, IsNoEntry, ReadsAs, after_blanks, before_blanks}
use Rattle.ipnet_lists.proofs.EntryTexts.{none_of, one_address}

-- ---- truth values

pub is_true : {P : Type 0} → P → IsTrue true ↔ P
is_true h = (λ e. h, λ k. refl)

pub is_false : {P : Type 0} → ¬ P → IsTrue false ↔ P
is_false not = (λ e. absurd cc, λ k. absurd (not k))

-- of two tests, the second of which is only made if the first holds
pub both : {P Q : Type 0} (a b : Bool) → (IsTrue a ↔ P) → a ≡ true → (IsTrue b ↔ Q) → IsTrue b ↔ (P × Q)
both a b h holds k = (λ e. (h.0 holds, k.0 e), λ p. k.1 p.1)

-- of two tests, the first of which does not hold
pub first_fails : {P : Type 0} (Q : Type 0) (a : Bool) → (IsTrue a ↔ P) → a ≡ false → IsTrue a ↔ (P × Q)
first_fails Q a h none = (
  λ e. let clash = sym e ∙ none in absurd cc,
  λ p. let clash = sym (h.1 p.0) ∙ none in absurd cc,
)

-- ---- what was read, or not

module _ {V T : Type 0} (thing_of : V → T) (Writes : List ℕ → T → Type 0) (text : List ℕ) where
  pub none_is : (o : Option V) → ReadsAs thing_of Writes text o → o ≡ None
      → IsTrue false ↔ ((t : T) × Writes text t)
  none_is o h e =
      is_false (λ p. none_of thing_of Writes text o h (λ v is. let clash = sym e ∙ is in absurd cc) p.0 p.1)

pub family_no : (family : Family) (text : List ℕ) (x : Address) → IsAddressText Legacy text x → x.family ≢ family
    → IsTrue false ↔ IsOfFamily family text
family_no family text x h other =
    is_false (λ p. other (ap (λ (y : Address). y.family) (one_address Legacy text x p.0 h p.1) ∙ p.2))

pub family_none : (family : Family) (text : List ℕ) → ((x : Address) → ¬ (IsAddressText Legacy text x))
    → IsTrue false ↔ IsOfFamily family text
family_none family text none = is_false (λ p. none p.0 p.1)

-- an address that was read, and whether it is a mask
pub mask_is : (text : List ℕ) (x : Address) → IsAddressText Legacy text x → x.family ≡ IPv4 → (is : Bool)
    → (IsTrue is ↔ IsMaskNumber x.number) → IsTrue is ↔ IsMaskText text
mask_is text x writes family is h = (
  λ e. record { mask = x; writes = writes; family = family; is_mask = h.0 e },
  λ p.
      let one = one_address Legacy text p.mask x p.writes writes in
      h.1 (subst (λ (y : Address). IsMaskNumber y.number) one p.is_mask),
)

pub mask_not : (text : List ℕ) (x : Address) → IsAddressText Legacy text x → x.family ≢ IPv4
    → IsTrue false ↔ IsMaskText text
mask_not text x writes other =
    is_false (λ p. other (ap (λ (y : Address). y.family) (one_address Legacy text x p.mask writes p.writes) ∙ p.family))

pub mask_none : (text : List ℕ) → ((x : Address) → ¬ (IsAddressText Legacy text x)) → IsTrue false ↔ IsMaskText text
mask_none text none = is_false (λ p. none p.mask p.writes)

-- ---- only digits, of a number above another

pub same_digits : (ds : List ℕ) → list_all is_ascii_digit ds ≡ all_ascii_digits ds
same_digits [] = refl
same_digits (d ∷ ds) = ap (λ t. is_ascii_digit d && t) (same_digits ds)

pub digits_model : IsNumeralModel (λ ds. all_ascii_digits ds ≡ true) (digits_value 10)
digits_model = numerals_by_value (λ ds. all_ascii_digits ds ≡ true) tells_all_ascii_digits

pub no_digits : (most : ℕ) (text : List ℕ) → list_all is_ascii_digit text ≡ false → WritesAbove most text → ⊥
no_digits most text none h =
    let all : all_ascii_digits text ≡ true = digits_model.from text h.digits.1 in
    let clash : true ≡ false = sym all ∙ sym (same_digits text) ∙ none in
    absurd cc

-- digits that `parse` refuses are too large for it
pub above_unread : {E : Type 0} (most : ℕ) (text : List ℕ) → 0 < length text → list_all is_ascii_digit text ≡ true
    → most < 2 ^ 32 → (r : Result ℕ E) (e : E) → r ≡ Err e → ParsesUnsigned 32 10 text r → WritesAbove most text
above_unread most text some digits fits r e is h =
    let all : all_ascii_digits text ≡ true = sym (same_digits text) ∙ digits in
    let parsed = parse_digits digits_model 32 text r h all in
    let refused = subst (λ z. OkIff z ((0 < length text) × (digits_value 10 text < 2 ^ 32)) (digits_value 10 text)) is
    parsed in
    elim (cases_lt (digits_value 10 text) (2 ^ 32)) [
      | inl less ↦ absurd (refused (some, less))
      | inr other ↦ record { digits = (some, digits_model.to text all); above = omega (arith, fits, other) }
    ]

-- ---- the two parts of a text

-- the two addresses of a pair
pub pair_is : (Related : Address → Address → Type 0) (front back : List ℕ) (x y : Address)
    → WriteEnds front back (x, y) → (is : Bool) → (IsTrue is ↔ Related x y)
    → IsTrue is ↔ AreAddresses Related front back
pair_is Related front back x y h is related = (
  λ e. record { first = x; last = y; writes_first = h.0; writes_last = h.1; related = related.0 e },
  λ p.
      let one = one_address Legacy (before_blanks front) p.first x p.writes_first h.0 in
      let two = one_address Legacy (after_blanks back) p.last y p.writes_last h.1 in
      related.1 (subst (λ z. Related z y) one (subst (Related p.first) two p.related)),
)

pub pair_none : (Related : Address → Address → Type 0) (front back : List ℕ)
    → ((pair : Address × Address) → ¬ (WriteEnds front back pair)) → IsTrue false ↔ AreAddresses Related front back
pair_none Related front back none = is_false (λ p. none (p.first, p.last) (p.writes_first, p.writes_last))

-- ---- the first cause

-- a text with a cause is not an entry
pub reported_no_entry : (grammar : Grammar) (text : List ℕ) (o : Option Cause) → IsReportedCause grammar text o
    → IfSome o (λ _. IsNoEntry grammar text)
reported_no_entry grammar text None h = tt
reported_no_entry grammar text (Some c) (inl h) = let clash = h.1 in absurd cc
reported_no_entry grammar text (Some c) (inr h) = h.0
