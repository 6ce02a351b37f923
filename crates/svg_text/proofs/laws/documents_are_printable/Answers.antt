use Rattle.svg_text.proofs.PrintLaws.{nodes_printable}
use Rattle.svg_text.proofs.laws.documents_are_printable.Goals as goal

pub returns : goal.returns
returns c = λ nodes. nodes_printable nodes
