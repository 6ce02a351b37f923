-- The text is as it was collected, or sorted.
use Rattle.std.proofs.Common.{◌≡◌, ◌∙◌, All, map, subst}
use Rattle.std.proofs.lemmas.List.Sorted.{All-permutation}
use Rattle.netset_lib.specs.Filters.{text_of_entries}
use Rattle.netset_entries.specs.SelectSteps.{IsPlaceIn, entry_at}
use Rattle.netset_entries.proofs.SortLaws.{sorted_text, unsorted_text}
use Rattle.netset_entries.proofs.selected.Selected.into_text.Goals as goal

pub returns-then-not-sort-clause-text : goal.returns-then-not-sort-clause-text
returns-then-not-sort-clause-text c = λ request entries same h.
    unsorted_text request c.args.self entries h (same ∙ c.if-not-sort.true)

pub returns-clause-text : goal.returns-clause-text
returns-clause-text c = λ request entries same h.
    let is = same ∙ c.if-not-sort.false in
    let (are, permutation) = c.in_ok-sort_places.ensures c.args.self.text.items in
    let text = c.args.self.text.items in
    let places = c.sort_places.new.places.items in
    let lines = c.in_ok-lines.lines.items in
    let made : All (IsPlaceIn text) places → lines ≡ text_of_entries (map (entry_at text) places)
    = subst (λ t. All (IsPlaceIn t) places → lines ≡ text_of_entries (map (entry_at t) places))
    c.as_slice.ensures.value
    (subst (λ ps. All (IsPlaceIn c.as_slice.result.now) ps
    → lines ≡ text_of_entries (map (entry_at c.as_slice.result.now) ps)) c.as_slice-2.ensures.value
    c.in_ok-lines.ensures) in
    sorted_text request c.args.self entries h is places lines are
    (made (All-permutation (IsPlaceIn text) c.args.self.places.items places permutation (h.places is).within))
