use Rattle.std.proofs.Common.{refl}
use Rattle.netset_entries.proofs.supernet.ipv4_supernet.Goals as goal

pub returns-in-Some : goal.returns-in-Some
returns-in-Some c = c.in-Some.ensures.some

pub returns-in-None : goal.returns-in-None
returns-in-None c = λ x m. c.in-None.ensures.none.0 refl (x, m)
