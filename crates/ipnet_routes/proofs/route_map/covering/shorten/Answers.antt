-- The network of the own address and the shorter length, without host bits.
use Rattle.std.proofs.Common.{ap, ◌∙◌, subst, arith}
use Rattle.ipnet_base.specs.Address.{width}
use Rattle.ipnet_base.specs.Network.{IsTruncationOf}
use Rattle.ipnet.specs.NetworkOf.{ip_network}
use Rattle.ipnet.specs.NetworkParts.{network_at}
use Rattle.ipnet.specs.NetLaws.{ip_valid}
use Rattle.ipnet_routes.proofs.route_map.covering.shorten.Goals as goal

pub new_assert-requires : goal.new_assert-requires
new_assert-requires c =
    omega (arith, c.requires, (ip_valid c.args.network.now).prefix_fits, ap (λ x. width x.family) c.addr.ensures)

pub returns : goal.returns
returns c =
    subst (IsTruncationOf (ip_network c.trunc.result))
    (c.new_assert.ensures ∙ ap (λ x. network_at x c.args.len) c.addr.ensures) c.trunc.ensures
