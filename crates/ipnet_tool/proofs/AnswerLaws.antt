-- The networks of a text by family, their aggregates, and the text of these.
use Rattle.std.proofs.Common.{◌≡◌, ℕ, List, [], Ok, Err, String, Global, string_bytes, ap, All}
use Rattle.ipnet.specs.Network.{Network}
use Rattle.ipnet.specs.Blocks.{HaveSameCover, IsAggregateOf}
use Rattle.ipnet.proofs.CoverLaws.{HaveSameCover-sym}
use Rattle.ipnet.proofs.AggregateLaws.{aggregate_of_same_cover}
use Rattle.ipnet.specs.declared.parser.Grammar.{Grammar}
use Rattle.ipnet.specs.Lines.{lines_of, AreNetworksOf, IsFirstBadLine}
use Rattle.ipnet_tool.specs.Answers.{IsAnswerTo, IsTextAnswer}
use Rattle.ipnet_text.specs.BadLines.{StartsWithBadLine}
use Rattle.ipnet_text.specs.LineTexts.{text_of_lines}
use Rattle.ipnet_text.specs.declared.networks.ToolError.{ToolError}
use Rattle.ipnet_text.specs.declared.networks.ToolError.TheVariants as ToolErrors

-- the text of the aggregate of networks that cover what the lines' networks cover is the answer
pub answer_from : (grammar : Grammar) (text answer : List ℕ) (networks families blocks : List Network)
    → AreNetworksOf grammar (lines_of text) networks
    → HaveSameCover networks families → IsAggregateOf blocks families → answer ≡ text_of_lines blocks
    → IsAnswerTo grammar text answer
answer_from grammar text answer networks families blocks written same aggregate spelled = record {
  networks = networks;
  written = written;
  blocks = blocks;
  aggregate = aggregate_of_same_cover families networks blocks (HaveSameCover-sym networks families same) aggregate;
  spelled = spelled;
}

-- ---- what the tool gives

-- if a text does not start with a bad line: its answer, which is empty if all its lines are
pub answered : (grammar : Grammar) (text : List ℕ) (answer : String Global)
    → (All (λ line. line ≡ []) (lines_of text) → string_bytes answer ≡ [])
    → IsAnswerTo grammar text (string_bytes answer)
    → ((number : ℕ) → ¬ (StartsWithBadLine grammar (lines_of text) number)) → IsTextAnswer grammar text (Ok answer)
answered grammar text answer empty is none_at_once = record {
  empty = empty;
  answer = is;
  bad_line = λ number e. absurd cc;
  bad_at_once = λ number h. absurd (none_at_once number h);
}

-- for another, what ends the reading of its lines
pub not_answered : (grammar : Grammar) (text : List ℕ) (error : ToolError)
    → ¬ (All (λ line. line ≡ []) (lines_of text))
    → ((number : ℕ) → error ≡ ToolErrors.Line number → IsFirstBadLine grammar (lines_of text) number)
    → ((number : ℕ) → StartsWithBadLine grammar (lines_of text) number → error ≡ ToolErrors.Line number)
    → IsTextAnswer grammar text (Err error)
not_answered grammar text error some bad_line at_once = record {
  empty = λ h. absurd (some h);
  answer = tt;
  bad_line = λ number e. bad_line number cc;
  bad_at_once = λ number h. ap Err (at_once number h);
}
