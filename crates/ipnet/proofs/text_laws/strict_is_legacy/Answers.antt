use Rattle.ipnet.proofs.StrictTexts.{strict_is_legacy}
use Rattle.ipnet.proofs.text_laws.strict_is_legacy.Goals as goal

pub returns : goal.returns
returns c = strict_is_legacy
