-- The spans of entries, one entry after the other, and sorted.
use Rattle.std.proofs.Common.{◌≡◌, ◌≢◌, ℕ, zero, suc, ◌+◌, ◌<◌, ◌≤◌, Bool, false, List, [], ◌∷◌, ◌++◌}
use Rattle.std.proofs.Common.{length}
use Rattle.std.proofs.Common.{get_or, AllPairs, Contains, IsPermutation, arith, sym, ap, subst, ◌∙◌, inl, inr}
use Rattle.std.specs.List.{IsDistinct, AllByRecursion}
use Rattle.std.specs.List.Sorted.{IsNonDecreasingBy, IsSortedByKey}
use Rattle.std.specs.Ordering.{is_lt}
use Rattle.std.proofs.Common.{Equal, Greater, nat_cmp}
use Rattle.std.specs.Cmp.{nat_cmp_is}
use Rattle.std.proofs.lemmas.Bool.{cases_lt, cases_eq, eqb-false, ne_eqb}
use Rattle.std.proofs.lemmas.List.Elements.{Contains-push, Contains-append_left, Contains-push_cases}
use Rattle.std.proofs.lemmas.List.Quantifiers.{all_pairs_push}
use Rattle.std.proofs.lemmas.List.Sorted.{Contains-permutation, IsPermutation-sym}
use Rattle.std.proofs.lemmas.Map.Keys.{IsDistinct-IsPermutation}
use Rattle.std.proofs.Math.Dec.{eqb}
use Rattle.ipnet_base.specs.Address.{Family}
use Rattle.ipnet_base.proofs.ListLaws.{at_place, pairs_from_adjacent, pairs_head, pairs_tail, contains_here}
use Rattle.ipnet_base.proofs.ListLaws.{contains_there}
use Rattle.netset_entries.specs.NumberedEntries.{NumberedEntry}
use Rattle.netset_entries.specs.declared.span.Span.{Span}
use Rattle.netset_entries.specs.Spans.{IsSpanIn, IsFlagged, IsBeforeSpan, AreSpans}

-- the spans of the entries before this index
pub record AreSpansTo (entries : List NumberedEntry) (flags : List Bool) (f : Family) (place : ℕ) (spans : List Span)
    : Type 0 where
  pub rising : AllPairs (λ s t. s.place < t.place) spans
  pub each : (s : Span) → Contains spans s → IsSpanIn entries flags f s × (s.place < place)
  pub all : (i : ℕ) → i < place → IsFlagged entries flags f i → (s : Span) × Contains spans s × (s.place ≡ i)

pub spans_start : (entries : List NumberedEntry) (flags : List Bool) (f : Family) (spans : List Span) → spans ≡ []
    → AreSpansTo entries flags f 0 spans
spans_start entries flags f spans none = record {
  rising = λ i j d lt less. absurd (let wrong : ⊥ = omega (arith, less, ap length none) in wrong);
  each = λ s c. absurd (let wrong : ⊥ = omega (arith, c.1, ap length none) in wrong);
  all = λ i less h. absurd (let wrong : ⊥ = omega (arith, less) in wrong);
}

pub spans_push : (entries : List NumberedEntry) (flags : List Bool) (f : Family) (place : ℕ) (spans : List Span)
    (s : Span) → AreSpansTo entries flags f place spans → IsSpanIn entries flags f s → s.place ≡ place
    → AreSpansTo entries flags f (place + 1) (spans ++ s ∷ [])
spans_push entries flags f place spans s h is here = record {
  rising = all_pairs_push (λ t u. t.place < u.place) spans s h.rising (λ k d less.
      let t = get_or spans k d in
      let below = (h.each t (k, less, at_place spans k t d less)).1 in
      omega (arith, below, here));
  each = λ t c. elim (Contains-push_cases spans s t c) [
    | inl old ↦ let known = h.each t old in (known.0, omega (arith, known.1))
    | inr last ↦ (
      subst (IsSpanIn entries flags f) last is,
      omega (arith, here, ap (λ z. z.place) last),
    )
  ];
  all = λ i less flagged. elim (cases_lt i place) [
    | inl before ↦
        let (t, c, at) = h.all i before flagged in (t, Contains-append_left spans (s ∷ []) t c, at)
    | inr not ↦ (s, Contains-push spans s, omega (arith, here, less, not))
  ];
}

pub spans_skip : (entries : List NumberedEntry) (flags : List Bool) (f : Family) (place : ℕ) (spans : List Span)
    → AreSpansTo entries flags f place spans → (IsFlagged entries flags f place → ⊥)
    → AreSpansTo entries flags f (place + 1) spans
spans_skip entries flags f place spans h out = record {
  rising = h.rising;
  each = λ s c. let known = h.each s c in (known.0, omega (arith, known.1));
  all = λ i less flagged. elim (cases_lt i place) [
    | inl before ↦ h.all i before flagged
    | inr not ↦
        let same : i ≡ place = omega (arith, less, not) in
        absurd (out (subst (IsFlagged entries flags f) same flagged))
  ];
}

-- ---- sorted

-- two spans are of one index
abbrev same_place : Span → Span → Bool
same_place s t = eqb s.place t.place

flips : (s t : Span) → same_place s t ≡ same_place t s
flips s t = elim (cases_eq s.place t.place) [
  | inl same ↦ ap (λ z. eqb z t.place) same ∙ ap (eqb t.place) (sym same)
  | inr other ↦ ne_eqb s.place t.place other ∙ sym (ne_eqb t.place s.place (λ e. other (sym e)))
]

all_later : (s : Span) (spans : List Span) → ((t : Span) → Contains spans t → s.place < t.place)
    → AllByRecursion (λ t. same_place s t ≡ false) spans
all_later s [] h = tt
all_later s (t ∷ spans) h = (
  ne_eqb s.place t.place (λ e. let wrong : ⊥ = omega (arith, e, h t (contains_here t spans)) in wrong),
  all_later s spans (λ u c. h u (contains_there t spans u c)),
)

distinct_rising : (spans : List Span) → AllPairs (λ s t. s.place < t.place) spans → IsDistinct same_place spans
unfolding IsDistinct
distinct_rising [] h = tt
distinct_rising (s ∷ spans) h = (
  all_later s spans (pairs_head (λ t u. t.place < u.place) s spans h),
  distinct_rising spans (pairs_tail (λ t u. t.place < u.place) s spans h),
)

false_at : (s : Span) (spans : List Span) → AllByRecursion (λ t. same_place s t ≡ false) spans → (j : ℕ) (d : Span)
    → j < length spans → same_place s (get_or spans j d) ≡ false
false_at s [] h j d less = absurd (let wrong : ⊥ = omega (arith, less) in wrong)
false_at s (t ∷ spans) h zero d less = h.0
false_at s (t ∷ spans) h (suc j) d less = false_at s spans h.1 j d (omega (arith, less))

places_differ : (spans : List Span) → IsDistinct same_place spans → (i j : ℕ) (d : Span) → i < j → j < length spans
    → (get_or spans i d).place ≢ (get_or spans j d).place
unfolding IsDistinct
places_differ [] h i j d lt less = absurd (let wrong : ⊥ = omega (arith, less) in wrong)
places_differ (s ∷ spans) h zero zero d lt less = absurd (let wrong : ⊥ = omega (arith, lt) in wrong)
places_differ (s ∷ spans) h zero (suc j) d lt less =
    eqb-false s.place (get_or spans j d).place (false_at s spans h.0 j d (omega (arith, less)))
places_differ (s ∷ spans) h (suc i) zero d lt less = absurd (let wrong : ⊥ = omega (arith, lt) in wrong)
places_differ (s ∷ spans) h (suc i) (suc j) d lt less =
    places_differ spans h.1 i j d (omega (arith, lt)) (omega (arith, less))

before_trans : (s t u : Span) → IsBeforeSpan s t → IsBeforeSpan t u → IsBeforeSpan s u
before_trans s t u (inl a) (inl b) = inl (omega (arith, a, b))
before_trans s t u (inl a) (inr b) = inl (omega (arith, a, b.0))
before_trans s t u (inr a) (inl b) = inl (omega (arith, a.0, b))
before_trans s t u (inr a) (inr b) = inr (omega (arith, a.0, b.0), omega (arith, a.1, b.1))

pub spans_sorted : (entries : List NumberedEntry) (flags : List Bool) (f : Family) (place : ℕ)
    (spans sorted : List Span) → AreSpansTo entries flags f place spans → length entries ≤ place
    → IsPermutation spans sorted
    → IsNonDecreasingBy (λ s. s.first) sorted
    → ((k : ℕ) (d : Span) → k + 1 < length sorted → (get_or sorted k d).first ≡ (get_or sorted (k + 1) d).first
    → (get_or sorted k d).place ≤ (get_or sorted (k + 1) d).place)
    → AreSpans entries flags f sorted
spans_sorted entries flags f place spans sorted h ended moved up ties = record {
  ordered = pairs_from_adjacent IsBeforeSpan before_trans sorted (λ k d less.
      let s = get_or sorted k d in
      let t = get_or sorted (k + 1) d in
      let rises : s.first ≤ t.first = up k (k + 1) d (omega arith) less in
      elim (cases_lt s.first t.first) [
        | inl lt ↦ inl lt
        | inr ge ↦
            let tie : s.first ≡ t.first = omega (arith, rises, ge) in
            let le = ties k d less tie in
            let other = places_differ sorted apart k (k + 1) d (omega arith) less in
            inr (
              tie,
              elim (cases_eq s.place t.place) [
                | inl same ↦ absurd (other same)
                | inr no_tie ↦ elim (cases_lt s.place t.place) [
                  | inl lt ↦ lt
                  | inr back ↦ absurd (no_tie (omega (arith, le, back)))
                ]
              ],
            )
      ]);
  each = λ s c. (h.each s (Contains-permutation sorted spans s (IsPermutation-sym spans sorted moved) c)).0;
  all = λ i flagged.
      let (s, c, at) = h.all i (omega (arith, flagged.at.0, ended)) flagged in
      (s, Contains-permutation spans sorted s moved c, at);
}
  where
    apart : IsDistinct same_place sorted
    apart = IsDistinct-IsPermutation same_place flips spans sorted moved (distinct_rising spans h.rising)

not_below : (a b : ℕ) → a ≤ b → is_lt (nat_cmp b a) ≡ false
not_below a b le = elim (cases_lt a b) [
  | inl lt ↦ ap is_lt (sym (nat_cmp_is b a Greater lt))
  | inr ge ↦ ap is_lt (sym (nat_cmp_is b a Equal (omega (arith, le, ge))))
]

-- the indexes rise before the sort
pub sorted_by_place : (spans : List Span) → AllPairs (λ s t. s.place < t.place) spans
    → IsSortedByKey (λ s. s.place) nat_cmp spans
sorted_by_place spans up k d low less =
    not_below (get_or spans k d).place (get_or spans (k + 1) d).place
    (omega (arith, up k (k + 1) d (omega arith) less))
