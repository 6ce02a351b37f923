-- Its bytes are read as payloads with the same networks, lengths and AS numbers.
use Rattle.ipnet_origins.proofs.RecordLaws.{image_validity}
use Rattle.ipnet_origins.proofs.laws.one_validity_of_image.Goals as goal

pub returns : goal.returns
returns c = image_validity
