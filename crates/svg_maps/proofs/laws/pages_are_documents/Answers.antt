use Rattle.svg_text.proofs.GrammarLaws.{nodes_content}
use Rattle.svg_text.proofs.PrintLaws.{nodes_printable}
use Rattle.svg_maps.specs.Pages.{page_nodes}
use Rattle.svg_maps.proofs.FormLaws.{page_formed}
use Rattle.svg_maps.proofs.laws.pages_are_documents.Goals as goal

pub returns-clause-xml : goal.returns-clause-xml
returns-clause-xml c = λ view. nodes_content (page_nodes view) (page_formed view)

pub returns-clause-printable : goal.returns-clause-printable
returns-clause-printable c = λ view. nodes_printable (page_nodes view)
