use Rattle.std.proofs.Common.{◌≡◌, ℕ, ◌+◌, ◌≤◌, [], length, All}
use denote.Text.{Utf8}
use denote.Shadow.{shadow}
use Rattle.ipnet.specs.Lines.{lines_of, IsFirstBadLine}
use Rattle.ipnet_text.specs.BadLines.{StartsWithBadLine}
use Rattle.ipnet_text.proofs.EarlyLines.{IsTakenTo}
use Rattle.ipnet_text.proofs.networks.push_lines.Given as goal

-- The networks taken so far, then the networks of the rest, are the networks of the text.
abbrev pub invariant-lines : goal.invariant-lines
invariant-lines g l = record {
  is_text : shadow (Utf8 l.rest);
  room : l.number + length l.rest ≤ l.before + length l.text;
  count : l.number + length (lines_of l.rest) ≡ l.before + length (lines_of l.text);
  taken : IsTakenTo l.grammar (lines_of l.text) (lines_of l.rest) (g.S.NetworkSink.is_made l.fn.sink)
      (g.S.NetworkSink.is_made l.sink);
  empty : All (λ line. line ≡ []) (lines_of l.text)
      → All (λ line. line ≡ []) (lines_of l.rest) × (l.sink ≡ l.fn.sink);
  bad_line : (later : ℕ) → IsFirstBadLine l.grammar (lines_of l.rest) later
      → (whole : ℕ) × (l.number + later ≡ l.before + whole) × IsFirstBadLine l.grammar (lines_of l.text) whole;
  at_once : (number : ℕ) → StartsWithBadLine l.grammar (lines_of l.text) number
      → (later : ℕ) × (l.before + number ≡ l.number + later) × StartsWithBadLine l.grammar (lines_of l.rest) later;
}

abbrev pub decreases-lines : goal.decreases-lines
decreases-lines g l = length l.rest
