-- Each call on a range, its result and the rest: the first, the last, and the item at a place from either end.
use Rattle.std.proofs.Common.{◌≡◌, ℕ, ◌+◌, ◌-◌, Option, Some, None, [], ◌∷◌, ◌++◌, length, take, drop, reverse}
use Rattle.std.proofs.Common.{slice_get, option_map, MatchOption, refl, sym, ap, ◌∙◌, arith, inl, inr, length-append}
use Rattle.std.specs.Iterator.{YieldsFirstBy, YieldsLastBy}
use Rattle.std.proofs.lemmas.Bool.{cases_lt, cases_eq}
use Rattle.ipnet_base.specs.Address.{Address, address_at}
use Rattle.ipnet_base.specs.Ranges.{AddressRange, addresses_of, address_count, with_ends, IsNext, IsNextBack, IsNth}
use Rattle.ipnet_base.specs.Ranges.{IsNthBack, IsRangeStep, IsRangeStepBack}
use Rattle.ipnet_base.proofs.RangeLaws.{addresses_none, addresses_first, addresses_one, used_up, addresses_last}
use Rattle.ipnet_base.proofs.RangeLaws.{length-addresses_of, addresses_at, addresses_past, addresses_from}
use Rattle.ipnet_base.proofs.RangeLaws.{addresses_back_at, addresses_back_past, addresses_up_to}

-- `next` returns the first item and leaves the rest, `next_back` returns the last and leaves those before it
pub IsNext-yields : (r : AddressRange) (answer : Option Address) (s : AddressRange) → IsNext r answer s
    → MatchOption answer ((addresses_of r ≡ []) × (addresses_of s ≡ [])) (λ x. addresses_of r ≡ x ∷ addresses_of s)
IsNext-yields r answer s h = elim (cases_lt r.end r.start) [
  | inl empty ↦ let n = h.none empty in rw (n.0, n.1) (addresses_none r empty, addresses_none r empty)
  | inr start_le ↦ elim (cases_lt r.start r.end) [
    | inl below ↦ let n = h.several below in rw (n.0, n.1) (addresses_first r (omega arith))
    | inr end_le ↦ let e : r.start ≡ r.end = omega arith in
        let n = h.one e in rw (n.0, n.1, used_up r) (addresses_one r e)
  ]
]

pub IsNextBack-yields : (r : AddressRange) (answer : Option Address) (s : AddressRange) → IsNextBack r answer s
    → MatchOption answer ((addresses_of r ≡ []) × (addresses_of s ≡ []))
    (λ x. addresses_of r ≡ addresses_of s ++ x ∷ [])
IsNextBack-yields r answer s h = elim (cases_lt r.end r.start) [
  | inl empty ↦ let n = h.none empty in rw (n.0, n.1) (addresses_none r empty, addresses_none r empty)
  | inr start_le ↦ elim (cases_lt r.start r.end) [
    | inl below ↦ let n = h.several below in rw (n.0, n.1) (addresses_last r (omega arith) (omega arith))
    | inr end_le ↦ let e : r.start ≡ r.end = omega arith in
        let n = h.one e in rw (n.0, n.1, used_up r) (addresses_one r e)
  ]
]

-- so the ends determine the whole effect of `next`
pub range_step : {R A : Type 0} {address_of : A → Address} {range_of : R → AddressRange} {old new : R}
    {answer : Option A}
    → IsNext (range_of old) (option_map address_of answer) (range_of new)
    → IsRangeStep address_of range_of old answer new
range_step {answer = None} h = record { progress = record { on = λ _. tt; keeps = tt; rests = λ _. tt }; ends = h }
range_step {address_of = address_of} {range_of = range_of} {old = old} {new = new} {answer = Some x} h =
    let one_less = ap length (IsNext-yields (range_of old) (Some (address_of x)) (range_of new) h) in
    record {
      progress =
          record {
            on =
                λ _. (
                  tt,
                  tt,
                  omega (
                    arith,
                    one_less,
                    length-addresses_of (range_of old),
                    length-addresses_of (range_of new),
                  ),
                );
            keeps = tt;
            rests = λ _. tt;
          };
      ends = h;
    }

pub yields_first : {R A : Type 0} {address_of : A → Address} {range_of : R → AddressRange} {old new : R}
    {answer : Option A}
    → IsRangeStep address_of range_of old answer new
    → YieldsFirstBy address_of (λ r. addresses_of (range_of r)) old answer new
yields_first {range_of = range_of} {old = old} {new = new} {answer = None} step =
    IsNext-yields (range_of old) None (range_of new) step.ends
yields_first {address_of = address_of} {range_of = range_of} {old = old} {new = new} {answer = Some x} step =
    IsNext-yields (range_of old) (Some (address_of x)) (range_of new) step.ends

pub range_step_back : {R A : Type 0} {address_of : A → Address} {range_of : R → AddressRange} {old new : R}
    {answer : Option A}
    → IsNextBack (range_of old) (option_map address_of answer) (range_of new)
    → IsRangeStepBack address_of range_of old answer new
range_step_back {answer = None} h = record { progress = record { on = λ _. tt; keeps = tt; rests = λ _. tt }; ends = h }
range_step_back {address_of = address_of} {range_of = range_of} {old = old} {new = new} {answer = Some x} h =
    let rest = addresses_of (range_of new) in
    let one_less =
    ap length (IsNextBack-yields (range_of old) (Some (address_of x)) (range_of new) h)
    ∙ length-append rest (address_of x ∷ []) in
    record {
      progress =
          record {
            on =
                λ _. (
                  tt,
                  tt,
                  omega (
                    arith,
                    one_less,
                    length-addresses_of (range_of old),
                    length-addresses_of (range_of new),
                  ),
                );
            keeps = tt;
            rests = λ _. tt;
          };
      ends = h;
    }

pub yields_last : {R A : Type 0} {address_of : A → Address} {range_of : R → AddressRange} {old new : R}
    {answer : Option A}
    → IsRangeStepBack address_of range_of old answer new
    → YieldsLastBy address_of (λ r. addresses_of (range_of r)) old answer new
yields_last {range_of = range_of} {old = old} {new = new} {answer = None} step =
    IsNextBack-yields (range_of old) None (range_of new) step.ends
yields_last {address_of = address_of} {range_of = range_of} {old = old} {new = new} {answer = Some x} step =
    IsNextBack-yields (range_of old) (Some (address_of x)) (range_of new) step.ends

-- `nth` returns the item at its place and leaves the items after it, `nth_back` does the same from the end
pub IsNth-item : (n : ℕ) (r : AddressRange) (answer : Option Address) (s : AddressRange) → IsNth n r answer s
    → answer ≡ slice_get (addresses_of r) n
IsNth-item n r answer s h = elim (cases_lt n (address_count r)) [
  | inr past ↦ (h.past past).0 ∙ sym (addresses_past r n past)
  | inl within ↦ elim (cases_eq (n + 1) (address_count r)) [
    | inl e ↦ (h.last e).0 ∙ ap (λ m. Some (address_at r.family m)) (omega arith) ∙ sym (addresses_at r n within)
    | inr ne ↦ (h.before (omega arith)).0 ∙ sym (addresses_at r n within)
  ]
]

pub IsNth-left : (n : ℕ) (r : AddressRange) (answer : Option Address) (s : AddressRange) → IsNth n r answer s
    → addresses_of s ≡ drop (n + 1) (addresses_of r)
IsNth-left n r answer s h = elim (cases_lt (n + 1) (address_count r)) [
  | inl within ↦ ap addresses_of (h.before within).1
      ∙ sym (addresses_from r (n + 1) ∙ ap (λ m. addresses_of (with_ends r m r.end)) (omega arith))
  | inr up ↦
      let none : drop (n + 1) (addresses_of r) ≡ [] =
      addresses_from r (n + 1) ∙ addresses_none (with_ends r (r.start + (n + 1)) r.end) (omega arith) in
      elim (cases_eq (n + 1) (address_count r)) [
        | inl e ↦ ap addresses_of (h.last e).1 ∙ used_up r ∙ sym none
        | inr ne ↦ ap addresses_of (h.past (omega arith)).1 ∙ used_up r ∙ sym none
      ]
]

pub IsNthBack-item : (n : ℕ) (r : AddressRange) (answer : Option Address) (s : AddressRange) → IsNthBack n r answer s
    → answer ≡ slice_get (reverse (addresses_of r)) n
IsNthBack-item n r answer s h = elim (cases_lt n (address_count r)) [
  | inr past ↦ (h.past past).0 ∙ sym (addresses_back_past r n past)
  | inl within ↦ elim (cases_eq (n + 1) (address_count r)) [
    | inl e ↦ (h.first e).0 ∙ ap (λ m. Some (address_at r.family m)) (omega arith) ∙ sym (addresses_back_at r n within)
    | inr ne ↦ (h.after (omega arith)).0 ∙ sym (addresses_back_at r n within)
  ]
]

pub IsNthBack-left : (n : ℕ) (r : AddressRange) (answer : Option Address) (s : AddressRange) → IsNthBack n r answer s
    → addresses_of s ≡ take (address_count r - (n + 1)) (addresses_of r)
IsNthBack-left n r answer s h = elim (cases_lt (n + 1) (address_count r)) [
  | inl within ↦ ap addresses_of (h.after within).1
      ∙ sym (addresses_up_to r (n + 1) within ∙ ap (λ m. addresses_of (with_ends r r.start m)) (omega arith))
  | inr up ↦
      let zero_left : address_count r - (n + 1) ≡ 0 = omega arith in
      let none : take (address_count r - (n + 1)) (addresses_of r) ≡ [] = rw zero_left refl in
      elim (cases_eq (n + 1) (address_count r)) [
        | inl e ↦ ap addresses_of (h.first e).1 ∙ used_up r ∙ sym none
        | inr ne ↦ ap addresses_of (h.past (omega arith)).1 ∙ used_up r ∙ sym none
      ]
]
