use Rattle.ipnet.proofs.PrintedTexts.{canonical_is_read}
use Rattle.ipnet.proofs.text_laws.canonical_is_read.Goals as goal

pub returns : goal.returns
returns c = canonical_is_read
