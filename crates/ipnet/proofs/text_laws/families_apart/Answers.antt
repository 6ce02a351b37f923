use Rattle.ipnet.proofs.WholeTexts.{families_apart}
use Rattle.ipnet.proofs.text_laws.families_apart.Goals as goal

pub returns : goal.returns
returns c = families_apart
