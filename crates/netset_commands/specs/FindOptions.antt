-- The options of `find`.
use Rattle.std.specs.Prelude.{Bool, true, false}
use Rattle.netset_entries.specs.declared.find.EntryRelation.{EntryRelation}
use Rattle.netset_entries.specs.declared.find.EntryRelation.TheVariants.{Overlaps, Contains, Inside, Exact}

-- The relation of entries to the one that is looked for, by the flags `--contains`, `--inside` and `--exact`. Two of
-- them are refused.
abbrev pub chosen_relation : (contains inside exact : Bool) → EntryRelation
chosen_relation true inside exact = Contains
chosen_relation false true exact = Inside
chosen_relation false false true = Exact
chosen_relation false false false = Overlaps
