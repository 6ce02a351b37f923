-- Loops over a column that write one number for each row.
use Rattle.std.proofs.Common.{◌≡◌, ℕ, ◌+◌, ◌-◌, ◌<◌, ◌≤◌, ◌↔◌, Bool, false, IsTrue, List, length, get_or, slice_set}
use Rattle.std.proofs.Common.{take, drop, inl, inr, refl, sym, ap, subst, ◌∙◌, arith}
use Rattle.std.proofs.lemmas.Bool.{cases_lt}
use Rattle.std.proofs.lemmas.Grind.{get_or-set_at}
use Rattle.std.proofs.lemmas.List.{length-set, get_or-set_other, get_or-take, get_or-drop}
use Rattle.std.specs.Int.{from_bool}
use Rattle.ipnet.specs.Address.{IPv4, address_at}
use Rattle.ipnet_sets.specs.Images.{IsImageOf}
use Rattle.ipnet_sets.specs.Members.{IsMember}
use Rattle.ipnet_sets.specs.declared.set.IpSet.{IpSet}
use Rattle.ipnet_c.specs.Rows.{row_bytes}
use Rattle.ipnet_c.specs.RowReplies.{IsRowAnswer, IsRowValue}
use Rattle.ipnet_c.specs.SetReplies.{IsAnswerAt}
use Rattle.ipnet_c.specs.TableReplies.{IsValueAt}
use Rattle.ipnet_c.proofs.StatusLaws.{answered_at}

-- Each number before the index is right for the row with its index.
pub record AreRightTo (IsRight : ℕ → ℕ → Type 0) (index : ℕ) (old new : List ℕ) : Type 0 where
  pub as_many : length new ≡ length old
  pub done : (i : ℕ) → i < index → IsRight i (get_or new i 0)

pub right_more : (IsRight : ℕ → ℕ → Type 0) (index : ℕ) (old new : List ℕ) (value : ℕ)
    → AreRightTo IsRight index old new → index < length new → IsRight index value
    → AreRightTo IsRight (index + 1) old (slice_set new index value)
right_more IsRight index old new value h within is = record {
  as_many = length-set new index value ∙ h.as_many;
  done = λ i less. elim (cases_lt i index) [
    | inl before ↦ subst (IsRight i)
        (sym (get_or-set_other new index i value 0 (λ same. let wrong : ⊥ = omega (arith, same, before) in wrong)))
        (h.done i before)
    | inr not ↦ let same : i ≡ index = omega (arith, less, not) in
        subst (IsRight i) (sym (get_or-set_at new index i value 0 same within))
        (subst (λ j. IsRight j value) (sym same) is)
  ];
}

-- ---- what is right for a row, for each call

abbrev pub IsNumberAnswer : List ℕ → List ℕ → ℕ → ℕ → Type 0
IsNumberAnswer set numbers i answer = IsAnswerAt set (address_at IPv4 (get_or numbers i 0)) answer

abbrev pub IsNumberValue : List ℕ → List ℕ → ℕ → ℕ → ℕ → Type 0
IsNumberValue table numbers missing i value =
    IsValueAt table (address_at IPv4 (get_or numbers i 0)) missing value

abbrev pub IsAnswerForRow : List ℕ → List ℕ → List ℕ → ℕ → ℕ → Type 0
IsAnswerForRow set families octets i answer = IsRowAnswer set (get_or families i 0) (row_bytes octets i) answer

abbrev pub IsValueForRow : List ℕ → List ℕ → List ℕ → ℕ → ℕ → ℕ → Type 0
IsValueForRow table families octets missing i value =
    IsRowValue table (get_or families i 0) (row_bytes octets i) missing value

-- ---- eight rows at once

-- the rows up to a start, and eight more
pub right_eight : (IsRight : ℕ → ℕ → Type 0) (start : ℕ) (old now new : List ℕ) → AreRightTo IsRight start old now
    → length new ≡ length now → ((i : ℕ) → start ≤ i → i < start + 8 → IsRight i (get_or new i 0))
    → ((i : ℕ) → i < start → get_or new i 0 ≡ get_or now i 0) → AreRightTo IsRight (start + 8) old new
right_eight IsRight start old now new h len here before = record {
  as_many = len ∙ h.as_many;
  done = λ i less. elim (cases_lt i start) [
    | inl lt ↦ subst (IsRight i) (sym (before i lt)) (h.done i lt)
    | inr ge ↦ here i ge less
  ];
}

-- Each byte of a lane before the index says whether the lane is inside; the bytes before the eight are what they were.
pub record AreLanesTo (start lane : ℕ) (inside : List Bool) (old new : List ℕ) : Type 0 where
  pub as_many : length new ≡ length old
  pub done : (i : ℕ) → i < lane → get_or new (start + i) 0 ≡ from_bool (get_or inside i false)
  pub before : (i : ℕ) → i < start → get_or new i 0 ≡ get_or old i 0

pub lanes_none : (start : ℕ) (inside : List Bool) (old : List ℕ) → AreLanesTo start 0 inside old old
lanes_none start inside old = record {
  as_many = refl;
  done = λ i less. absurd (omega (arith, less));
  before = λ i less. refl;
}

pub lanes_more : (start lane : ℕ) (inside : List Bool) (old new : List ℕ) (value : ℕ)
    → AreLanesTo start lane inside old new → start + lane < length new → value ≡ from_bool (get_or inside lane false)
    → AreLanesTo start (lane + 1) inside old (slice_set new (start + lane) value)
lanes_more start lane inside old new value h within is = record {
  as_many = length-set new (start + lane) value ∙ h.as_many;
  done = λ i less. elim (cases_lt i lane) [
    | inl lt ↦ get_or-set_other new (start + lane) (start + i) value 0
        (λ same. let wrong : ⊥ = omega (arith, same, lt) in wrong)
        ∙ h.done i lt
    | inr not ↦ let same : i ≡ lane = omega (arith, less, not) in
        get_or-set_at new (start + lane) (start + i) value 0 (omega (arith, same)) within ∙ is
        ∙ ap (λ j. from_bool (get_or inside j false)) (sym same)
  ];
  before = λ i less. get_or-set_other new (start + lane) i value 0
      (λ same. let wrong : ⊥ = omega (arith, same, less) in wrong) ∙ h.before i less;
}

-- the bytes of all eight lanes are right for the numbers there
pub eight_answered : (set addresses numbers : List ℕ) (inside : List Bool) (start lane : ℕ) (old new : List ℕ)
    → numbers ≡ take (start + 8 - start) (drop start addresses)
    → ((s : IpSet) → IsImageOf set s → (k : ℕ) → k < 8
    → IsTrue (get_or inside k false) ↔ IsMember s (address_at IPv4 (get_or numbers k 0)))
    → AreLanesTo start lane inside old new → 8 ≤ lane
    → (i : ℕ) → start ≤ i → i < start + 8 → IsNumberAnswer set addresses i (get_or new i 0)
eight_answered set addresses numbers inside start lane old new copied member h all i ge less =
    let k = i - start in
    let place : start + k ≡ i = omega (arith, ge) in
    let few : k < 8 = omega (arith, ge, less) in
    let number : get_or numbers k 0 ≡ get_or addresses i 0 =
    ap (λ z. get_or z k 0) copied ∙ get_or-take (start + 8 - start) (drop start addresses) k 0 (omega (arith, few))
    ∙ get_or-drop start addresses k 0 ∙ ap (λ j. get_or addresses j 0) place in
    answered_at set (address_at IPv4 (get_or addresses i 0)) (get_or inside k false) (get_or new i 0)
    (λ s image. subst (λ z. IsTrue (get_or inside k false) ↔ IsMember s (address_at IPv4 z)) number
    (member s image k few))
    (ap (λ j. get_or new j 0) (sym place) ∙ h.done k (omega (arith, few, all)))
