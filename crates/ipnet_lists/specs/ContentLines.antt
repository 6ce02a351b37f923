-- The lines of a list that contain something, and what is read of each: an item, or why it is refused.
use Rattle.std.specs.Prelude.{◌≡◌, ◌≢◌, ◌⊎◌, ℕ, ◌+◌, List, [], ◌∷◌, Result, Ok, Err}
use Rattle.ipnet.specs.Lines.{lines_of}
use Rattle.ipnet_lists.specs.declared.refused.Refusals.{Refusals}
use Rattle.ipnet_lists.specs.Entries.{HasReturn}
use Rattle.ipnet_lists.specs.Lists.{AreContents, IsContents, RefusalFor, after_mark}
use Rattle.ipnet_lists.specs.RefusedLines.{HasMore}

-- A line that is not empty: its number, from 1, and its contents. Example: 3 and `::1` for `::1 # x` on line 3.
pub record ContentLine : Type 0 where
  pub number : ℕ
  pub text : List ℕ

-- The line is not empty, without its comment and blanks. Example: `\tx # y`, but not `# y`.
abbrev pub IsSomeLine : List ℕ → Type 0
IsSomeLine line = (text : List ℕ) × IsContents line text × (text ≢ [])

-- The line, refused for this cause. The index of its list is 0.
abbrev pub refused_line : {C : Type 0} → ContentLine → C → RefusalFor C
refused_line line cause = record { list = 0; number = line.number; text = line.text; cause = cause }

-- The first of the refused lines is this one, for a cause that is true of it, and `more` are the others.
pub record IsNextRefused {C : Type 0} (IsCause : List ℕ → C → Type 0) (line : ContentLine)
    (refused more : List (RefusalFor C)) : Type 0 where
  pub cause : C
  pub reported : IsCause line.text cause
  pub next : refused ≡ refused_line line cause ∷ more

-- The first of the items is what this line is, and `more` are the others. A line with a carriage return in it is not
-- an item.
pub record IsNextItem {T : Type 0} (Is : ContentLine → T → Type 0) (line : ContentLine) (items more : List T) : Type
    0 where
  pub unbroken : ¬ (HasReturn line.text)
  pub item : T
  pub is : Is line item
  pub next : items ≡ item ∷ more

-- Why a line with these contents is refused: for `broken` if a carriage return is in them, and else for a cause that is
-- true of them. Example: for `7\r7`, `broken`.
abbrev pub OrBroken : {C : Type 0} → C → (List ℕ → C → Type 0) → List ℕ → C → Type 0
OrBroken broken IsCause text cause =
    (HasReturn text × (cause ≡ broken)) ⊎ ((¬ (HasReturn text)) × IsCause text cause)

-- Lines with these contents, the first with this number, are items or are refused. These are the items and the refused
-- lines, in order. Empty lines are skipped.
abbrev pub AreItems : {T C : Type 0} → (ContentLine → T → Type 0) → (List ℕ → C → Type 0) → ℕ → List (List ℕ) → List T
    → List (RefusalFor C) → Type 0
AreItems Is IsCause number [] items refused = (items ≡ []) × (refused ≡ [])
AreItems Is IsCause number ([] ∷ texts) items refused = AreItems Is IsCause (number + 1) texts items refused
AreItems {T} {C} Is IsCause number ((b ∷ text) ∷ texts) items refused =
    ((more : List T) × IsNextItem Is (record { number = number; text = b ∷ text }) items more
    × AreItems Is IsCause (number + 1) texts more refused)
    ⊎ ((more : List (RefusalFor C)) × IsNextRefused IsCause (record { number = number; text = b ∷ text }) refused more
    × AreItems Is IsCause (number + 1) texts items more)

-- The bytes are a list with these items and refused lines. Blanks, comments and a byte order mark are as in lists of
-- entries.
-- Example: if only numbers are items, `7 # ours\n\nx\n7\r7\n` has the item 7 of line 1, and the lines 3, `x`, and 4 are
-- refused.
abbrev pub IsItemList : {T C : Type 0} → (ContentLine → T → Type 0) → (List ℕ → C → Type 0) → List ℕ → List T
    → List (RefusalFor C) → Type 0
IsItemList Is IsCause bytes items refused = (texts : List (List ℕ)) × AreContents (lines_of (after_mark bytes)) texts
    × AreItems Is IsCause 1 texts items refused

-- A line was taken, or refused for a cause that is true of it; then nothing changed.
abbrev pub IsTaken : {U C : Type 0} → Type 0 → (C → Type 0) → Type 0 → Result U C → Type 0
IsTaken Took IsCause Same (Ok _) = Took
IsTaken Took IsCause Same (Err cause) = IsCause cause × Same

-- The line makes the second value of the first. One with a carriage return in it makes none.
abbrev pub TakesUnbroken : {M : Type 0} → (ContentLine → M → M → Type 0) → ContentLine → M → M → Type 0
TakesUnbroken Takes line old new = (¬ (HasReturn line.text)) × Takes line old new

-- Lines with these contents, the first with this number, make the value `new` of the value `old`, one after another.
-- These lines are refused. Empty lines are skipped.
abbrev pub AreTaken : {M C : Type 0} → (ContentLine → M → M → Type 0) → (List ℕ → C → Type 0) → ℕ → List (List ℕ)
    → (old new : M) → List (RefusalFor C) → Type 0
AreTaken Takes IsCause number [] old new refused = (new ≡ old) × (refused ≡ [])
AreTaken Takes IsCause number ([] ∷ texts) old new refused = AreTaken Takes IsCause (number + 1) texts old new refused
AreTaken {M} {C} Takes IsCause number ((b ∷ text) ∷ texts) old new refused =
    ((mid : M) × TakesUnbroken Takes (record { number = number; text = b ∷ text }) old mid
    × AreTaken Takes IsCause (number + 1) texts mid new refused)
    ⊎ ((more : List (RefusalFor C)) × IsNextRefused IsCause (record { number = number; text = b ∷ text }) refused more
    × AreTaken Takes IsCause (number + 1) texts old new more)

-- The lines of the bytes make the value `new` of the value `old`, and these lines are refused.
abbrev pub IsTakenList : {M C : Type 0} → (ContentLine → M → M → Type 0) → (List ℕ → C → Type 0) → List ℕ
    → (old new : M) → List (RefusalFor C) → Type 0
IsTakenList Takes IsCause bytes old new refused = (texts : List (List ℕ))
    × AreContents (lines_of (after_mark bytes)) texts × AreTaken Takes IsCause 1 texts old new refused

-- The line was taken or refused, and its refusal is added.
abbrev pub AddsTaken : {M C : Type 0} → (ContentLine → M → M → Type 0) → (List ℕ → C → Type 0) → ContentLine
    → (old new : M) → (refused refused_after : Refusals C) → Type 0
AddsTaken {M} {C} Takes IsCause line old new refused refused_after = (refusals : List (RefusalFor C))
    × AreTaken Takes IsCause line.number (line.text ∷ []) old new refusals × HasMore refused refused_after refusals
