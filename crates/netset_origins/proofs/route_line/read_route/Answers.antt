use Rattle.std.proofs.Common.{subst}
use Rattle.netset_lib.specs.NetworkEntries.{IsArgumentCause}
use Rattle.netset_origins.proofs.route_line.read_route.Goals as goal

pub returns-in-Err-clause-cause : goal.returns-in-Err-clause-cause
returns-in-Err-clause-cause c =
    subst (λ z. IsArgumentCause c.args.grammar z c.in-Err.cause) c.cut_route.ensures.network c.in-Err.ensures.cause
