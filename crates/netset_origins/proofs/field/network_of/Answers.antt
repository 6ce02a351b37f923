use Rattle.std.proofs.Common.{refl}
use Rattle.netset_origins.proofs.field.network_of.Goals as goal

pub returns-in-None-clause-cause : goal.returns-in-None-clause-cause
returns-in-None-clause-cause c = (c.in-None.ensures.reads.none.0 refl, c.cause_of.ensures.reported)
