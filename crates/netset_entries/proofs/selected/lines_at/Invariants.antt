-- The lines of the places before this one.
use Rattle.std.proofs.Common.{◌≡◌, All, map, take}
use Rattle.netset_lib.specs.Filters.{text_of_entries}
use Rattle.netset_entries.specs.SelectSteps.{IsPlaceIn, entry_at}
use Rattle.netset_entries.proofs.selected.lines_at.Given as goal

abbrev pub invariant-loop-place : goal.invariant-loop-place
invariant-loop-place l =
    All (IsPlaceIn l.text) l.places
    → l.lines.items ≡ text_of_entries (map (entry_at l.text) (take l.place-index l.places))
