-- Texts that are not read as lists of networks: the status that says why, and the number of the first bad line.
-- `line_old` and `line` are this number in the caller's memory before and after the call.
-- Only private contracts use these.
use Rattle.std.specs.Prelude.{◌≡◌, ◌≢◌, ℕ, ◌↔◌, ◌⊎◌, List, [], All, IsUtf8}
use Rattle.ipnet.specs.declared.parser.Grammar.{Grammar}
use Rattle.ipnet.specs.declared.parser.Grammar.TheVariants.{Strict}
use Rattle.ipnet.specs.Lines.{lines_of, IsGoodLine, IsFirstBadLine}
use Rattle.ipnet_text.specs.BadLines.{StartsWithBadLine}
use Rattle.ipnet_c.specs.Statuses as statuses

-- The text has a bad line, or memory ran out before one was found. Two cases need no memory: all lines are empty; or
-- the first line that is not empty is bad.
-- Example: `"10.0.0.0/24\nx\n"` with 2 and `bad_line`, or with the old number and `out_of_memory`.
pub record IsBadList (grammar : Grammar) (text : List ℕ) (line_old line status : ℕ) : Type 0 where
  pub known : (status ≡ statuses.bad_line) ⊎ (status ≡ statuses.out_of_memory)
  pub bad_line : status ≡ statuses.bad_line → IsFirstBadLine grammar (lines_of text) line
  pub line_kept : status ≢ statuses.bad_line → line ≡ line_old
  pub some : ¬ (All (λ line. line ≡ []) (lines_of text))
  pub bad_at_once : (number : ℕ) → StartsWithBadLine grammar (lines_of text) number → status ≡ statuses.bad_line

-- The text is not UTF-8, or else a bad list.
pub record IsBadText (grammar : Grammar) (text : List ℕ) (line_old line status : ℕ) : Type 0 where
  pub known : (status ≡ statuses.bad_line) ⊎ ((status ≡ statuses.not_utf8) ⊎ (status ≡ statuses.out_of_memory))
  pub bad_line : status ≡ statuses.bad_line → IsFirstBadLine grammar (lines_of text) line
  pub not_utf8 : (status ≡ statuses.not_utf8) ↔ ¬ (IsUtf8 text)
  pub line_kept : status ≢ statuses.bad_line → line ≡ line_old
  pub some : ¬ (All (λ line. line ≡ []) (lines_of text))
  pub bad_at_once : (number : ℕ) → IsUtf8 text → StartsWithBadLine grammar (lines_of text) number
      → status ≡ statuses.bad_line

-- One of two texts is not UTF-8, or else one of them is a bad list; the first text comes first in both.
pub record AreBadTexts (text other : List ℕ) (line_old line status : ℕ) : Type 0 where
  pub known : (status ≡ statuses.bad_line) ⊎ ((status ≡ statuses.bad_line_in_other) ⊎ ((status ≡ statuses.not_utf8)
      ⊎ ((status ≡ statuses.other_not_utf8) ⊎ (status ≡ statuses.out_of_memory))))
  pub bad_line : status ≡ statuses.bad_line → IsFirstBadLine Strict (lines_of text) line
  pub bad_line_in_other : status ≡ statuses.bad_line_in_other
      → IsFirstBadLine Strict (lines_of other) line × All (IsGoodLine Strict) (lines_of text)
  pub not_utf8 : (status ≡ statuses.not_utf8) ↔ ¬ (IsUtf8 text)
  pub other_not_utf8 : (status ≡ statuses.other_not_utf8) ↔ (IsUtf8 text × ¬ (IsUtf8 other))
  pub line_kept : status ≢ statuses.bad_line → status ≢ statuses.bad_line_in_other → line ≡ line_old
  pub some : All (λ line. line ≡ []) (lines_of text) → ¬ (All (λ line. line ≡ []) (lines_of other))
  pub bad_at_once : (number : ℕ) → IsUtf8 text → IsUtf8 other → StartsWithBadLine Strict (lines_of text) number
      → status ≡ statuses.bad_line
  pub bad_at_once_in_other : (number : ℕ) → All (λ line. line ≡ []) (lines_of text) → IsUtf8 other
      → StartsWithBadLine Strict (lines_of other) number → status ≡ statuses.bad_line_in_other
