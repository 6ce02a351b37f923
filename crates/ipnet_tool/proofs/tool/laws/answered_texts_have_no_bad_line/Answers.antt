use Rattle.ipnet.proofs.LineLaws.{all_good}
use Rattle.ipnet.specs.Lines.{lines_of}
use Rattle.ipnet_tool.proofs.tool.laws.answered_texts_have_no_bad_line.Goals as goal

pub returns : goal.returns
returns c = λ grammar text answer h. all_good grammar (lines_of text) h.networks h.written
