-- Runs of spans whose entries are of the same list.
use Rattle.std.proofs.Common.{◌≡◌, ℕ, ◌+◌, ◌<◌, ◌≤◌, Bool, true, false, List, length, take, drop}
use Rattle.std.proofs.Common.{get_or, Option, Some, None, sym, ap, ◌∙◌, arith}
use Rattle.std.proofs.Common.{nat_lt, nat_le, if◌then◌else◌}
use Rattle.std.proofs.lemmas.Bool.{leb-false, lt-leb, ltb-true, lt-ltb}
use Rattle.std.proofs.lemmas.List.{get_or-drop, get_or-take, length-drop, length-take-le}
use Rattle.netset_entries.specs.declared.span.Span.{Span}
use Rattle.netset_entries.specs.Overlaps.{is_asked}
use Rattle.netset_entries.specs.Sweeps.{no_span, is_of_first, AreRuns}

-- ---- which list

-- if a pair is not asked for, no pair with another entry of the same list is
pub not_asked : (count : Option ℕ) (i j k : ℕ) → is_of_first count k ≡ is_of_first count j
    → is_asked count i j ≡ false → is_asked count i k ≡ false
not_asked None i j k same none = none
not_asked (Some n) i j k same none = go (nat_lt i n) none
  where
    of_second : (m : ℕ) → nat_le n m ≡ false → nat_lt m n ≡ true
    of_second m out = lt-ltb m n (leb-false n m out)

    go : (b : Bool) → (if b then nat_le n j else nat_lt j n) ≡ false
        → (if b then nat_le n k else nat_lt k n) ≡ false
    go true out = lt-leb n k (ltb-true k n (same ∙ of_second j out))
    go false out = same ∙ out

module _ (count : Option ℕ) where
  -- ---- parts of a list with runs

  pub runs_after : (n : ℕ) (spans : List Span) (runs : List ℕ) → n ≤ length spans → AreRuns count spans runs
      → AreRuns count (drop n spans) (drop n runs)
  runs_after n spans runs within h = record {
    enough = omega (arith, h.enough, length-drop n spans, length-drop n runs);
    each = λ i less.
        let old = h.each (n + i) (omega (arith, less, length-drop n runs)) in
        let is : get_or (drop n runs) i 0 ≡ get_or runs (n + i) 0 = get_or-drop n runs i 0 in record {
          some = omega (arith, is, old.some);
          within = omega (arith, is, old.within, length-drop n runs, less);
          same = λ j from lt inside.
              ap (λ t. is_of_first count t.place) (get_or-drop n spans j no_span)
              ∙ old.same (n + j) (omega (arith, from)) (omega (arith, lt, is))
              (omega (arith, inside, length-drop n spans))
              ∙ sym (ap (λ t. is_of_first count t.place) (get_or-drop n spans i no_span));
        };
  }

  pub runs_up_to : (n : ℕ) (spans : List Span) (runs : List ℕ) → n ≤ length spans → AreRuns count spans runs
      → AreRuns count (take n spans) runs
  runs_up_to n spans runs within h = record {
    enough = omega (arith, h.enough, within, length-take-le n spans within);
    each = λ i less.
        let old = h.each i less in record {
          some = old.some;
          within = old.within;
          same = λ j from lt inside.
              let short : j < n = omega (arith, inside, length-take-le n spans within) in
              ap (λ t. is_of_first count t.place) (get_or-take n spans j no_span short)
              ∙ old.same j from lt (omega (arith, short, within))
              ∙ sym (ap (λ t. is_of_first count t.place) (get_or-take n spans i no_span (omega (arith, from, short))));
        };
  }
