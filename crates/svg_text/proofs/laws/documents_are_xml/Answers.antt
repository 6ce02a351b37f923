use Rattle.svg_text.proofs.GrammarLaws.{nodes_content}
use Rattle.svg_text.proofs.laws.documents_are_xml.Goals as goal

pub returns : goal.returns
returns c = λ nodes e. nodes_content nodes e
