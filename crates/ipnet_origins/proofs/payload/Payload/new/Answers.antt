-- The truncated network has the length and the family of the given one.
use Rattle.std.proofs.Common.{◌≡◌, ◌≤◌, arith, sym, subst}
use Rattle.ipnet_base.specs.Address.{width}
use Rattle.ipnet_base.specs.Network.{truncation}
use Rattle.ipnet_base.proofs.NetworkLaws.{truncation_from_relation}
use Rattle.ipnet.specs.NetworkOf.{ip_network}
use Rattle.ipnet_origins.proofs.payload.Payload.new.Goals as goal

pub invariant_of-result : goal.invariant_of-result
invariant_of-result c =
    let same : ip_network c.trunc.result ≡ truncation (ip_network c.args.network)
    = truncation_from_relation (ip_network c.trunc.result) (ip_network c.args.network) c.trunc.ensures in
    record {
      truncated = c.trunc.ensures.truncated;
      at_least = omega (arith, c.trunc.ensures.same_len, c.prefix_len.ensures, c.if-max_len-prefix_len.false);
      at_most = subst (λ n. c.args.max_len ≤ width n.family) (sym same)
          (omega (arith, c.max_prefix_len.ensures, c.if-max_len-max_prefix_len.false));
    }

pub returns-clause-network : goal.returns-clause-network
returns-clause-network c =
    truncation_from_relation (ip_network c.trunc.result) (ip_network c.args.network) c.trunc.ensures
