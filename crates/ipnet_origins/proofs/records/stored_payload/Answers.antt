-- A payload whose network has host bits is none.
use Rattle.std.proofs.Common.{◌≡◌, sym, ◌∙◌, subst}
use Rattle.ipnet_base.specs.Network.{IsTruncated, truncation}
use Rattle.ipnet_base.proofs.NetworkLaws.{truncation_of_truncated}
use Rattle.ipnet_base.proofs.ResultLaws.{false_gives}
use Rattle.ipnet.specs.NetworkOf.{ip_network}
use Rattle.ipnet_origins.specs.Groups.{network_of}
use Rattle.ipnet_origins.proofs.RecordLaws.{one_network_at}
use Rattle.ipnet_origins.proofs.records.stored_payload.Goals as goal

pub returns-then-not-is_of-clause-none : goal.returns-then-not-is_of-clause-none
returns-then-not-is_of-clause-none c none vrp h =
    let n = ip_network c.in_ok-network.network in
    let same : n ≡ network_of vrp
    = one_network_at c.args.bytes.now c.args.at n (network_of vrp) c.in_ok-network.ensures.some h.network in
    let cut : truncation n ≡ n = truncation_of_truncated n (subst IsTruncated (sym same) vrp.truncated) in
    let is : network_of c.in-Ok.payload ≡ n = c.in-Ok.ensures.network ∙ cut in
    false_gives c.is_of.result c.is_of.ensures c.if-not-is_of.true is
