use Rattle.std.proofs.Common.{subst}
use Rattle.serde_json.specs.View.{view}
use Rattle.ipnet.specs.NetworkOf.{ip_network}
use Rattle.ipnet_lists.specs.Entries.{IsNetworkOrMasked}
use Rattle.netset_lib.specs.NetworkEntries.{IsArgumentCause}
use Rattle.netset_origins.proofs.VrpLaws.{data_vrp, data_cause}
use Rattle.netset_origins.proofs.vrp_json.vrp_in.Goals as goal

pub returns-in-Ok-clause-vrp : goal.returns-in-Ok-clause-vrp
returns-in-Ok-clause-vrp c =
    data_vrp c.args.grammar (view c.args.value.now) c.in-Some.asn (ip_network c.in-Ok.network) c.number_in.result
    ((c.asn_in.ensures c.in-Some.asn).0 c.in-Some.is)
    (subst (λ z. IsNetworkOrMasked c.args.grammar z (ip_network c.in-Ok.network)) c.text_in.ensures
    c.in-Ok.ensures.network)
    c.number_in.ensures c.vrp_with.result c.vrp_with.ensures.vrp

pub returns-in-Ok-clause-cause : goal.returns-in-Ok-clause-cause
returns-in-Ok-clause-cause c =
    data_cause c.args.grammar (view c.args.value.now) c.in-Some.asn (ip_network c.in-Ok.network) c.number_in.result
    ((c.asn_in.ensures c.in-Some.asn).0 c.in-Some.is)
    (subst (λ z. IsNetworkOrMasked c.args.grammar z (ip_network c.in-Ok.network)) c.text_in.ensures
    c.in-Ok.ensures.network)
    c.number_in.ensures c.vrp_with.result c.vrp_with.ensures.cause

pub returns-in-Err-clause-cause : goal.returns-in-Err-clause-cause
returns-in-Err-clause-cause c = (
  (c.in-Some.asn, (c.asn_in.ensures c.in-Some.asn).0 c.in-Some.is),
  subst (λ z. IsArgumentCause c.args.grammar z c.in-Err.cause) c.text_in.ensures c.in-Err.ensures.cause,
)
