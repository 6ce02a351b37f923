use Rattle.svg_text.proofs.PieceLaws.{escaped_safe}
use Rattle.svg_text.proofs.laws.escaped_texts_are_safe.Goals as goal

pub returns : goal.returns
returns c = λ text. escaped_safe text
