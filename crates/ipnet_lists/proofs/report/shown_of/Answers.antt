use Rattle.std.proofs.Common.{sym, take_all, arith}
use Rattle.ipnet_lists.specs.Reports.{most_text}
use Rattle.ipnet_lists.proofs.report.shown_of.Goals as goal

pub returns-in-None : goal.returns-in-None
returns-in-None c = sym (take_all most_text c.args.text.now (omega (arith, c.in-None.ensures)))
