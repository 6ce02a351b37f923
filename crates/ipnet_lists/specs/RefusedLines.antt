-- The refused lines as contracts see them.
use Rattle.std.specs.Prelude.{◌≡◌, ◌+◌, ℕ, List, ◌++◌, length, map, take}
use Rattle.ipnet_lists.specs.declared.cause.NotEntry.{NotEntry}
use Rattle.ipnet_lists.specs.declared.refused.Refused.{Refused}
use Rattle.ipnet_lists.specs.declared.refused.Refusals.{Refusals}
use Rattle.ipnet_lists.specs.Lists.{RefusalFor}

-- A line that is not an entry.
abbrev pub RefusedLine : Type 0
RefusedLine = Refused NotEntry

-- The lines of all lists that are not entries.
abbrev pub RefusedLines : Type 0
RefusedLines = Refusals NotEntry

-- At most this number of refused lines are kept. The others are only counted.
abbrev pub most_shown : ℕ
most_shown = 10

-- The refusal that a value represents.
abbrev pub refusal_of : {C : Type 0} → Refused C → RefusalFor C
refusal_of r = record { list = r.list; number = r.number; text = r.text.items; cause = r.cause }

-- The refused lines that are kept.
abbrev pub shown_refusals : {C : Type 0} → Refusals C → List (RefusalFor C)
shown_refusals r = map refusal_of r.shown.items

-- These are all refused lines: the first ten are kept, and all are counted. Example: of twelve, ten are kept and the
-- count is 12.
pub record AreRefused {C : Type 0} (lines : Refusals C) (refusals : List (RefusalFor C)) : Type 0 where
  pub shown : shown_refusals lines ≡ take most_shown refusals
  pub count : lines.count ≡ length refusals

-- The refused lines `more` are added: the first ten of all are kept, and all are counted.
pub record HasMore {C : Type 0} (old new : Refusals C) (more : List (RefusalFor C)) : Type 0 where
  pub shown : shown_refusals new ≡ take most_shown (shown_refusals old ++ more)
  pub count : new.count ≡ old.count + length more
