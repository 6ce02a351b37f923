-- Offsets that ascend.
use Rattle.std.proofs.Common.{◌≡◌, ℕ, zero, suc, ◌+◌, ◌-◌, ◌<◌, ◌≤◌, List, inl, inr, sym, subst}
use Rattle.std.proofs.Common.{arith}
use Rattle.std.proofs.lemmas.Bool.{cases_lt}
use Rattle.ipnet_c.specs.TextRows.{offset_at, AreAscending}

-- The offsets below the index ascend, and `before` is the last of them.
pub record AscendTo (width : ℕ) (offsets : List ℕ) (count index before : ℕ) : Type 0 where
  pub some : 0 < index
  pub few : index ≤ count + 1
  pub last : before ≡ offset_at width offsets (index - 1)
  pub ordered : (i : ℕ) → i + 1 < index → offset_at width offsets i ≤ offset_at width offsets (i + 1)

pub first_offset : (width : ℕ) (offsets : List ℕ) (count before : ℕ) → before ≡ offset_at width offsets 0
    → AscendTo width offsets count 1 before
first_offset width offsets count before e =
    record { some = omega arith; few = omega arith; last = e; ordered = λ i less. absurd (omega (arith, less)) }

pub next_offset : (width : ℕ) (offsets : List ℕ) (count index before next : ℕ)
    → AscendTo width offsets count index before → index < count + 1 → next ≡ offset_at width offsets index
    → before ≤ next → AscendTo width offsets count (index + 1) next
next_offset width offsets count index before next h within e more = record {
  some = omega arith;
  few = omega (arith, within);
  last = subst (λ k. next ≡ offset_at width offsets k) (omega arith) e;
  ordered = λ i less. elim (cases_lt (i + 1) index) [
    | inl early ↦ h.ordered i early
    | inr late ↦ let same : i ≡ index - 1 = omega (arith, less, late) in
        let here : i + 1 ≡ index = omega (arith, same, h.some) in
        subst (λ k. offset_at width offsets i ≤ offset_at width offsets k) (sym here)
        (subst (λ k. offset_at width offsets k ≤ offset_at width offsets index) (sym same)
        (omega (arith, h.last, e, more)))
  ];
}

-- each offset is at most the last one
to_last : (size width : ℕ) (offsets : List ℕ) (count gap i : ℕ)
    → ((k : ℕ) → k < count → offset_at width offsets k ≤ offset_at width offsets (k + 1)) → i + gap ≡ count
    → offset_at width offsets count ≤ size → offset_at width offsets i ≤ size
to_last size width offsets count zero i ordered e most =
    subst (λ k. offset_at width offsets k ≤ size) (sym (omega (arith, e))) most
to_last size width offsets count (suc gap) i ordered e most =
    let later = to_last size width offsets count gap (i + 1) ordered (omega (arith, e)) most in
    omega (arith, ordered i (omega (arith, e)), later)

pub ascending : (size width : ℕ) (offsets : List ℕ) (count index before : ℕ)
    → AscendTo width offsets count index before → count + 1 ≤ index → before ≤ size
    → AreAscending size width offsets count
ascending size width offsets count index before h all most =
    let e : index ≡ count + 1 = omega (arith, h.few, all) in
    let last : offset_at width offsets count ≤ size =
    subst (λ k. offset_at width offsets k ≤ size) (omega (arith, e)) (subst (λ n. n ≤ size) h.last most) in
    let ordered : (i : ℕ) → i < count → offset_at width offsets i ≤ offset_at width offsets (i + 1) =
    λ i less. h.ordered i (omega (arith, less, e)) in
    record {
      within = λ i less. to_last size width offsets count (count - i) i ordered (omega (arith, less)) last;
      ordered = ordered;
    }

-- the last offset is at most the size
pub last_fits : (size width : ℕ) (offsets : List ℕ) (count index before : ℕ)
    → AscendTo width offsets count index before → count + 1 ≤ index → AreAscending size width offsets count
    → before ≤ size
last_fits size width offsets count index before h done all =
    let e : index ≡ count + 1 = omega (arith, h.few, done) in
    let last : offset_at width offsets (index - 1) ≤ size =
    subst (λ k. offset_at width offsets k ≤ size) (omega (arith, e)) (all.within count (omega arith)) in
    omega (arith, h.last, last)
