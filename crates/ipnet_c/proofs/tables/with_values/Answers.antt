-- Each turn adds one route.
use Rattle.std.proofs.Common.{◌+◌, map, take, get_or, sym, subst, arith}
use Rattle.ipnet_base.proofs.ListLaws.{at_place}
use Rattle.ipnet.specs.NetworkOf.{ip_network}
use Rattle.ipnet_routes.specs.Routes.{ip_routes}
use Rattle.ipnet_c.specs.TableReplies.{ArePairs}
use Rattle.ipnet_c.proofs.TableReplies.{paired_more, paired_all}
use Rattle.ipnet_c.proofs.tables.with_values.Goals as goal

pub loop-index-preserved : goal.loop-index-preserved
loop-index-preserved c =
    let index = c.loop-index.index in
    subst (λ z. ArePairs (take (index + 1) (map ip_network c.args.networks.now)) (take (index + 1) c.args.values.now)
    (ip_routes z)) (sym c.in_ok-push.ensures.items)
    (paired_more c.args.networks.now c.args.values.now index c.index-networks-index.result
    (get_or c.args.values.now index 0) c.loop-index.routes.items c.loop-index-test.true
    (omega (arith, c.loop-index-test.true, c.requires)) c.index-networks-index.is
    (at_place c.args.values.now index 0 (get_or c.args.values.now index 0)
    (omega (arith, c.loop-index-test.true, c.requires))) c.loop-index.invariant)

pub returns : goal.returns
returns c =
    paired_all c.args.networks.now c.args.values.now c.loop-index.index (ip_routes c.loop-index.routes.items)
    (omega (arith, c.loop-index-test.false)) (omega (arith, c.loop-index-test.false, c.requires))
    c.loop-index.invariant
