-- The ranges of a set, put one after another.
use Rattle.std.proofs.Common.{◌≡◌, ℕ, ◌≤◌, Bool, true, false, List, [], ◌∷◌, ◌++◌, All, map, Option}
use Rattle.std.proofs.Common.{refl, ap, ◌∙◌, subst}
use Rattle.std.proofs.lemmas.List.Elements.{All-head, All-tail}
use Rattle.ipnet_base.specs.Address.{Address}
use Rattle.ipnet_base.specs.Ranges.{AddressRange}
use Rattle.ipnet_sets.specs.SetRanges.{AreRangesOf}
use Rattle.ipnet_text.specs.Pieces.{IsInPieces}
use Rattle.ipnet_lists.specs.SetLines.{range_text}
use Rattle.netset_forms.specs.Forms.{AreRangesIn}
use Rattle.netset_forms.specs.FormSteps.{IsCut, IsPutUpTo, PutsSome, CutsSome, rest_in, lead_of, end_of}
use Rattle.netset_forms.specs.Layouts.{Layout, text_in}
use Rattle.netset_forms.proofs.PieceLaws.{up_to_start, up_to_more, up_to_cut, up_to_end, rest_more, rest_none}

module _ (layout : Layout) (InSet : Address → Type 0) where
  -- some ranges of the set are put, and the others are left
  pub record IsPuttingRanges (a b : Option (List ℕ)) (piece here : List ℕ) (none : Bool) (left : List AddressRange)
      : Type 0 where
    pub all : List AddressRange
    pub fewest : AreRangesOf InSet all
    pub up_to : IsPutUpTo a b piece here (rest_in layout none (map range_text left))
        (text_in layout (map range_text all))
    pub some : All (λ r. r.start ≤ r.end) left

  pub ranges_start : (a : Option (List ℕ)) (piece : List ℕ) (ranges : List AddressRange) → AreRangesOf InSet ranges
      → IsPuttingRanges a a piece piece true ranges
  ranges_start a piece ranges fewest = record {
    all = ranges;
    fewest = fewest;
    up_to = up_to_start a piece (text_in layout (map range_text ranges));
    some = fewest.some;
  }

  pub first_some : (a b : Option (List ℕ)) (piece here : List ℕ) (none : Bool) (left later : List AddressRange)
      (r : AddressRange) → left ≡ r ∷ later → IsPuttingRanges a b piece here none left → r.start ≤ r.end
  first_some a b piece here none left later r split h =
      All-head (λ q. q.start ≤ q.end) r later (subst (All (λ q. q.start ≤ q.end)) split h.some)

  cut_range : (none : Bool) (left later : List AddressRange) (r : AddressRange) → left ≡ r ∷ later
      → rest_in layout none (map range_text left)
      ≡ (lead_of layout none ++ range_text r) ++ rest_in layout false (map range_text later)
  cut_range none left later r split =
      ap (λ z. rest_in layout none (map range_text z)) split
      ∙ rest_more layout none (range_text r) (map range_text later)

  pub ranges_more : (a b c : Option (List ℕ)) (piece here new : List ℕ) (none : Bool) (left later : List AddressRange)
      (r : AddressRange) → left ≡ r ∷ later → IsInPieces b c new (here ++ (lead_of layout none ++ range_text r))
      → IsPuttingRanges a b piece here none left → IsPuttingRanges a c piece new false later
  ranges_more a b c piece here new none left later r split put h = record {
    all = h.all;
    fewest = h.fewest;
    up_to = up_to_more a b c piece here new (rest_in layout none (map range_text left))
        (lead_of layout none ++ range_text r) (rest_in layout false (map range_text later))
        (text_in layout (map range_text h.all)) h.up_to (cut_range none left later r split) put;
    some = All-tail (λ q. q.start ≤ q.end) r later (subst (All (λ q. q.start ≤ q.end)) split h.some);
  }

  pub ranges_cut : (a b c : Option (List ℕ)) (piece here : List ℕ) (none : Bool) (left later : List AddressRange)
      (r : AddressRange) → left ≡ r ∷ later → IsCut b c here (lead_of layout none ++ range_text r)
      → IsPuttingRanges a b piece here none left → CutsSome (AreRangesIn layout InSet) a c piece
  ranges_cut a b c piece here none left later r split cut h =
      let text = text_in layout (map range_text h.all) in (
        text,
        record { ranges = h.all; fewest = h.fewest; spelled = refl },
        up_to_cut a b c piece here (rest_in layout none (map range_text left)) (lead_of layout none ++ range_text r)
            (rest_in layout false (map range_text later)) text h.up_to (cut_range none left later r split) cut,
      )

  none_left : (none : Bool) (left : List AddressRange) → left ≡ []
      → rest_in layout none (map range_text left) ≡ end_of layout none ++ []
  none_left none left over = ap (λ z. rest_in layout none (map range_text z)) over ∙ rest_none layout none

  pub ranges_end : (a b c : Option (List ℕ)) (piece here new : List ℕ) (none : Bool) (left : List AddressRange)
      → left ≡ [] → IsInPieces b c new (here ++ end_of layout none) → IsPuttingRanges a b piece here none left
      → PutsSome (AreRangesIn layout InSet) a c piece new
  ranges_end a b c piece here new none left over put h =
      let text = text_in layout (map range_text h.all) in (
        text,
        record { ranges = h.all; fewest = h.fewest; spelled = refl },
        up_to_end a c piece new [] text refl
            (up_to_more a b c piece here new (rest_in layout none (map range_text left)) (end_of layout none) [] text
            h.up_to (none_left none left over) put),
      )

  pub ranges_end_cut : (a b c : Option (List ℕ)) (piece here : List ℕ) (none : Bool) (left : List AddressRange)
      → left ≡ [] → IsCut b c here (end_of layout none) → IsPuttingRanges a b piece here none left
      → CutsSome (AreRangesIn layout InSet) a c piece
  ranges_end_cut a b c piece here none left over cut h =
      let text = text_in layout (map range_text h.all) in (
        text,
        record { ranges = h.all; fewest = h.fewest; spelled = refl },
        up_to_cut a b c piece here (rest_in layout none (map range_text left)) (end_of layout none) [] text h.up_to
            (none_left none left over) cut,
      )
