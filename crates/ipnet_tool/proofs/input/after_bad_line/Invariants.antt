use Rattle.ipnet_text.specs.Window.{held}
use Rattle.ipnet_tool.proofs.ReadingLaws.{IsJudged}
use Rattle.ipnet_tool.proofs.input.after_bad_line.Given as goal

abbrev pub invariant-loop : goal.invariant-loop
invariant-loop g l =
    IsJudged (held l.fn.window) (g.R.Read.remaining l.fn.input) (g.R.Read.remaining l.input) (held l.window)
