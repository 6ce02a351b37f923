use Rattle.std.proofs.Common.{refl, subst}
use Rattle.ipnet_base.specs.Address.{ip_address}
use Rattle.ipnet_base.specs.Network.{InBlock}
use Rattle.ipnet_base.proofs.NetworkLaws.{truncation_of_truncated}
use Rattle.ipnet.specs.NetworkOf.{ip_network}
use Rattle.ipnet.specs.NetLaws.{ip_valid}
use Rattle.ipnet_lists.specs.EntryOf.{entry_range}
use Rattle.netset_lib.specs.Routing.{InTable}
use Rattle.netset_lib.proofs.RouteLaws.{climb_start, climbed_on, none_above, not_holder}
use Rattle.netset_lib.proofs.route.longest_holding.Goals as goal

pub climb-init : goal.climb-init
climb-init g c =
    climb_start c.args.table.now (entry_range c.args.entry) (ip_address c.ends-first.result.0)
    (ip_network c.in-Some.route.now.0, c.in-Some.route.now.1) c.ends-first.ensures.first c.in-Some.ensures.some

pub climb-preserved : goal.climb-preserved
climb-preserved g c =
    let n = ip_network c.climb.network in
    climbed_on c.args.table.now (entry_range c.args.entry) n (ip_valid c.climb.network) c.climb.invariant
    (not_holder c.args.table.now (entry_range c.args.entry) n (ip_address c.ends-first.result.1) c.is_holder.result
    c.climb.invariant.truncated c.ends-first.ensures.last c.is_holder.ensures c.climb-test.true)
    (ip_network c.in-Some-supernet.around) c.in-Some-supernet.ensures.some

pub returns-in-None : goal.returns-in-None
returns-in-None g c =
    let n = ip_network c.climb.network in
    none_above c.args.table.now (entry_range c.args.entry) n (ip_valid c.climb.network) c.climb.invariant
    (not_holder c.args.table.now (entry_range c.args.entry) n (ip_address c.ends-first.result.1) c.is_holder.result
    c.climb.invariant.truncated c.ends-first.ensures.last c.is_holder.ensures c.climb-test.true)
    (c.in-None.ensures.none.0 refl)

pub returns : goal.returns
returns g c =
    let n = ip_network c.climb.network in
    let holds = c.is_holder.ensures.0 c.climb-test.false in
    record {
      network = subst (InTable c.args.table.now) (truncation_of_truncated n c.climb.invariant.truncated) holds.1;
      holds = (c.climb.invariant.first, subst (InBlock n) c.ends-first.ensures.last holds.0);
      longest = c.climb.invariant.no_longer;
    }
