-- The output for a text of networks: its aggregate, one network per line.
use Rattle.std.specs.Prelude.{◌≡◌, ℕ, List, [], All, Result, Err, IfOk, IsOkAnd}
use Rattle.std.specs.Prelude.{String, string_bytes}
use Rattle.std.specs.declared.alloc.Global.{Global}
use Rattle.ipnet.specs.Network.{Network}
use Rattle.ipnet.specs.Blocks.{IsAggregateOf}
use Rattle.ipnet.specs.declared.parser.Grammar.{Grammar}
use Rattle.ipnet.specs.Lines.{lines_of, AreNetworksOf, IsFirstBadLine}
use Rattle.ipnet_text.specs.BadLines.{StartsWithBadLine}
use Rattle.ipnet_text.specs.LineTexts.{text_of_lines}
use Rattle.ipnet_text.specs.declared.networks.ToolError.{ToolError}
use Rattle.ipnet_text.specs.declared.networks.ToolError.TheVariants as ToolErrors

-- The lines of the text are networks or empty, and the answer is the text of their aggregate.
-- Example: `"fd00::/32\n10.0.0.0/24\n"` has the answer `"10.0.0.0/24\nfd00::/32\n"`.
pub record IsAnswerTo (grammar : Grammar) (text answer : List ℕ) : Type 0 where
  pub networks : List Network
  pub written : AreNetworksOf grammar (lines_of text) networks
  pub blocks : List Network
  pub aggregate : IsAggregateOf blocks networks
  pub spelled : answer ≡ text_of_lines blocks

-- The result of the text tool: the answer, the first bad line, or out of memory. Memory cannot run out if all lines are
-- empty, or if the first line that is not empty is bad.
-- Example: `""` and `"\n\n"` always give `Ok("")`; `"\nx\n"` always gives `Err(Line(2))`; `"10.0.0.0/24\nx\n"` gives
-- `Err(Line(2))` or `Err(Memory)`.
pub record IsTextAnswer (grammar : Grammar) (text : List ℕ) (result : Result (String Global) ToolError) : Type 0 where
  pub empty : All (λ line. line ≡ []) (lines_of text) → IsOkAnd result (λ answer. string_bytes answer ≡ [])
  pub answer : IfOk result (λ answer. IsAnswerTo grammar text (string_bytes answer))
  pub bad_line : (number : ℕ) → result ≡ Err (ToolErrors.Line number)
      → IsFirstBadLine grammar (lines_of text) number
  pub bad_at_once : (number : ℕ) → StartsWithBadLine grammar (lines_of text) number
      → result ≡ Err (ToolErrors.Line number)
