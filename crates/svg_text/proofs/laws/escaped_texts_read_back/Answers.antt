use Rattle.svg_text.proofs.ReadLaws.{escaped_same}
use Rattle.svg_text.proofs.laws.escaped_texts_read_back.Goals as goal

pub returns : goal.returns
returns c = λ one other u v e. escaped_same one other u v e
