use Rattle.ipnet.proofs.PrintedTexts.{prints_apart}
use Rattle.ipnet.proofs.text_laws.prints_apart.Goals as goal

pub returns : goal.returns
returns c = prints_apart
