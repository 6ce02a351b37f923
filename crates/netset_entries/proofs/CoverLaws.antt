-- The spans that reach from a number to another, from two searches.
use Rattle.std.proofs.Common.{◌≡◌, ℕ, ◌+◌, ◌-◌, ◌<◌, ◌≤◌, true, false, List, length, get_or, Any, AllPairs, leb, ltb}
use Rattle.std.proofs.Common.{arith}
use Rattle.std.proofs.Common.{ap, inl, inr}
use Rattle.std.specs.List.Sorted.{IsNonDecreasingBy, IsPartitionPoint}
use Rattle.std.proofs.lemmas.Bool.{cases_lt, ltb-true, ltb-false, leb-true, leb-false}
use Rattle.netset_entries.specs.declared.span.Span.{Span}
use Rattle.netset_entries.specs.Covers.{Rises, IsInNumbers, IsSpanAt, IsReach}

-- both ends do not fall
pub firsts_rise : (spans : List Span) → AllPairs Rises spans → IsNonDecreasingBy (λ s. s.first) spans
firsts_rise spans up i j d le less = elim (cases_lt i j) [
  | inl lt ↦ omega (arith, (up i j d lt less).0)
  | inr ge ↦
      let same : i ≡ j = omega (arith, le, ge) in
      omega (arith, ap (λ k. (get_or spans k d).first) same)
]

pub lasts_rise : (spans : List Span) → AllPairs Rises spans → IsNonDecreasingBy (λ s. s.last) spans
lasts_rise spans up i j d le less = elim (cases_lt i j) [
  | inl lt ↦ omega (arith, (up i j d lt less).1)
  | inr ge ↦
      let same : i ≡ j = omega (arith, le, ge) in
      omega (arith, ap (λ k. (get_or spans k d).last) same)
]

module _ (spans : List Span) (first last begun ended : ℕ)
    (begins : IsPartitionPoint (λ s. leb s.first first ≡ true) (λ s. leb s.first first ≡ false) spans begun)
    (ends : IsPartitionPoint (λ s. ltb s.last last ≡ true) (λ s. ltb s.last last ≡ false) spans ended)
    (within : begun ≤ length spans) (has_first : Any (IsInNumbers first) spans)
    (has_last : Any (IsInNumbers last) spans)
  where
    -- a span that has the first number is before `begun`
    pub some_begun : 0 < begun
    some_begun =
        let (k, s, less, at, inside) = has_first in
        elim (cases_lt k begun) [
          | inl before ↦ omega (arith, before)
          | inr not ↦
              let no = leb-false (get_or spans k s).first first (begins.1 k s not less) in
              let wrong : ⊥ = omega (arith, no, ap (λ z. z.first) at, inside.0) in absurd wrong
        ]

    -- a span that has the last number is not before `ended`
    some_ended : ended < length spans
    some_ended =
        let (k, s, less, at, inside) = has_last in
        elim (cases_lt k ended) [
          | inl before ↦
              let below = ltb-true (get_or spans k s).last last (ends.0 k s (omega arith) before) in
              let wrong : ⊥ = omega (arith, below, ap (λ z. z.last) at, inside.1) in absurd wrong
          | inr not ↦ omega (arith, not, less)
        ]

    starts : (s : Span) → IsSpanAt spans (begun - 1) s → s.first ≤ first
    starts s at =
        let yes_at = leb-true (get_or spans (begun - 1) s).first first
        (begins.0 (begun - 1) s (omega arith) (omega (arith, some_begun))) in
        omega (arith, yes_at, ap (λ z. z.first) at.1)

    later : (k : ℕ) (s : Span) → begun - 1 < k → IsSpanAt spans k s → first < s.first
    later k s past at =
        let no = leb-false (get_or spans k s).first first (begins.1 k s (omega (arith, past)) at.0) in
        omega (arith, no, ap (λ z. z.first) at.1)

    shorter : (k : ℕ) (s : Span) → k < ended → IsSpanAt spans k s → s.last < last
    shorter k s before at =
        let below = ltb-true (get_or spans k s).last last (ends.0 k s (omega arith) before) in
        omega (arith, below, ap (λ z. z.last) at.1)

    reaching : (k : ℕ) (s : Span) → ended ≤ k → IsSpanAt spans k s → last ≤ s.last
    reaching k s from at =
        let no = ltb-false (get_or spans k s).last last (ends.1 k s from at.0) in
        omega (arith, no, ap (λ z. z.last) at.1)

    -- the last span that begins by the first number ends from the last one on
    pub one_reaches : ended < begun → IsReach spans first last (begun - 1) begun
    one_reaches less = record {
      some = omega (arith, some_begun);
      within = within;
      begins = starts;
      after = later;
      short = λ k s from before. absurd (let wrong : ⊥ = omega (arith, from, before) in wrong);
      reaches = λ k s end at. reaching k s (omega (arith, end, less)) at;
    }

    -- it does not
    pub more_reach : begun ≤ ended → IsReach spans first last (begun - 1) (ended + 1)
    more_reach le = record {
      some = omega (arith, le, some_begun);
      within = omega (arith, some_ended);
      begins = starts;
      after = later;
      short = λ k s from before at. shorter k s (omega (arith, before)) at;
      reaches = λ k s end at. reaching k s (omega (arith, end)) at;
    }
