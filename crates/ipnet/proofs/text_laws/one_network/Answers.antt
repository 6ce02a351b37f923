use Rattle.ipnet.proofs.WholeTexts.{one_network}
use Rattle.ipnet.proofs.ValidTexts.{text_is_network}
use Rattle.ipnet.proofs.text_laws.one_network.Goals as goal

pub returns-clause-one : goal.returns-clause-one
returns-clause-one c = one_network

pub returns-clause-valid : goal.returns-clause-valid
returns-clause-valid c = text_is_network
