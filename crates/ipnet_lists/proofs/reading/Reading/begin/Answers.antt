use Rattle.std.proofs.Common.{refl}
use Rattle.ipnet_lists.proofs.reading.Reading.begin.Goals as goal

pub returns : goal.returns
returns g c = record { none = c.clear.ensures.items; lines = refl; past = c.in_ok-more.ensures }
