use Rattle.std.proofs.Common.{refl, subst}
use Rattle.ipnet_lists.specs.Causes.{IsReportedCause}
use Rattle.netset_lib.proofs.network_entry.read_network_argument.Goals as goal

pub returns-in-None-clause-cause : goal.returns-in-None-clause-cause
returns-in-None-clause-cause c = (
  c.in-None.ensures.reads.none.0 refl,
  subst (λ z. IsReportedCause c.args.grammar z c.cause_of.result) c.as_bytes.ensures.value c.cause_of.ensures.reported,
)
