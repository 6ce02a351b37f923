-- Bars that compare two sets: what the first has and the second lacks, and the reverse.
use Rattle.std.specs.Prelude.{◌≡◌, ℕ, List, [], ◌∷◌, ◌++◌, codes, decimal}
use Rattle.ipnet_base.specs.Address.{Address}
use Rattle.ipnet_base.specs.Network.{Network}
use Rattle.ipnet_sets.specs.Members.{IsCountOf}
use Rattle.ipnet_bars.specs.declared.change.Change.{Change}
use Rattle.ipnet_bars.specs.declared.change.Change.TheVariants.{Unused, Unchanged, Removed, Added, Mixed}
use Rattle.ipnet_bars.specs.declared.marks.Marks.{Marks}
use Rattle.ipnet_bars.specs.declared.marks.Marks.TheVariants.{Ascii, Utf8}
use Rattle.ipnet_bars.specs.declared.marks.RowWidth.{RowWidth}
use Rattle.ipnet_bars.specs.Bars.{AreBarRows, AreRows, row_head, first_line}
use Rattle.ipnet_bars.specs.Changes.{IsOnlyIn, AreChangesOf}
use Rattle.ipnet_bars.specs.MarkTexts.{mark_len}
use Rattle.ipnet_bars.specs.Outsides.{IsOutsideText}
use Rattle.ipnet_sets.specs.Parts.{IsInPart}

-- The text of the mark of a change; `·` is 194 183 in UTF-8.
abbrev pub change_text : Marks → Change → List ℕ
change_text Ascii Unused = codes "."
change_text Utf8 Unused = 194 ∷ 183 ∷ []
change_text marks Unchanged = codes "="
change_text marks Removed = codes "-"
change_text marks Added = codes "+"
change_text marks Mixed = codes "!"

-- The marks of these changes, in order. Example: `-=.` for `Removed`, `Unchanged` and `Unused`.
abbrev pub changes_text : Marks → List Change → List ℕ
changes_text marks [] = []
changes_text marks (change ∷ changes) = change_text marks change ++ changes_text marks changes

-- The end of a row: how many of its addresses only the first set has, and how many only the second.
-- Example: `| -2 +0`.
abbrev pub change_tail : ℕ → ℕ → List ℕ
change_tail removed added = codes "| -" ++ decimal removed ++ codes " +" ++ decimal added ++ 10 ∷ []

-- The row of this block: a mark for each of its subnets with the length of a mark, in order, by their changes; and how
-- many addresses of the block only one of the sets has.
-- Example: `10.0.0.0/30 |--==| -2 +0` from 10.0.0.0/30 to 10.0.0.2/31.
pub record IsChangeRow (Before After : Address → Type 0) (marks : Marks) (len column : ℕ) (n : Network)
    (text : List ℕ) : Type 0 where
  pub changes : List Change
  pub are_changes : AreChangesOf Before After n len changes
  pub removed : ℕ
  pub are_removed : IsCountOf (IsInPart (IsOnlyIn Before After) n) removed
  pub added : ℕ
  pub are_added : IsCountOf (IsInPart (IsOnlyIn After Before) n) added
  pub spelled : text ≡ row_head column n ++ changes_text marks changes ++ change_tail removed added

-- A count with its words, on one line. Example: `= in both: 2`.
abbrev pub worded_line : List ℕ → ℕ → List ℕ
worded_line words count = words ++ decimal count ++ 10 ∷ []

-- The lines below the rows. Example: `- only in the first: 2`, `+ only in the second: 0`, `= in both: 2` and
-- `! is - and + in one mark`.
abbrev pub legend_text : ℕ → ℕ → ℕ → List ℕ
legend_text removed added kept =
    worded_line (codes "- only in the first: ") removed ++ worded_line (codes "+ only in the second: ") added
    ++ worded_line (codes "= in both: ") kept ++ codes "! is - and + in one mark" ++ 10 ∷ []

-- The lines below the rows of a network: how many of its addresses only the first set has, only the second, and both.
pub record IsLegend (Before After : Address → Type 0) (n : Network) (text : List ℕ) : Type 0 where
  pub removed : ℕ
  pub are_removed : IsCountOf (IsInPart (IsOnlyIn Before After) n) removed
  pub added : ℕ
  pub are_added : IsCountOf (IsInPart (IsOnlyIn After Before) n) added
  pub kept : ℕ
  pub are_kept : IsCountOf (IsInPart (λ x. Before x × After x) n) kept
  pub spelled : text ≡ legend_text removed added kept

-- How many addresses outside the network only the first set has, and how many only the second; each line is left out
-- if there are none. Example: `- outside: IPv4 1, IPv6 0`.
pub record AreChangesOutside (Before After : Address → Type 0) (n : Network) (text : List ℕ) : Type 0 where
  pub first : List ℕ
  pub second : List ℕ
  pub of_first : IsOutsideText (IsOnlyIn Before After) n (codes "- ") first
  pub of_second : IsOutsideText (IsOnlyIn After Before) n (codes "+ ") second
  pub spelled : text ≡ first ++ second

-- The bar of a network that compares two sets: its first line; a row for each of its subnets with the length of a row,
-- in order, with the marks of all rows in the same columns; the lines below; and what differs outside the network.
pub record IsComparisonBar (Before After : Address → Type 0) (n : Network) (row_width : RowWidth) (marks : Marks)
    (text : List ℕ) : Type 0 where
  pub rows : List Network
  pub column : ℕ
  pub are_rows : AreBarRows n row_width rows column
  pub lines : List ℕ
  pub are_lines : AreRows (IsChangeRow Before After marks (mark_len n row_width) column) rows lines
  pub below : List ℕ
  pub is_legend : IsLegend Before After n below
  pub rest : List ℕ
  pub is_rest : AreChangesOutside Before After n rest
  pub spelled : text ≡ first_line n (mark_len n row_width) ++ lines ++ below ++ rest
