-- The range ends at the network, and its last lease is the one in question.
use Rattle.ipnet_pools.proofs.LeaseLaws.{last_found, last_missing}
use Rattle.ipnet_pools.proofs.leases.last_not_after.Goals as goal

pub returns-clause-found : goal.returns-clause-found
returns-clause-found g c =
    last_found _ (λ a b. (c.ip_nets_compare_by_network.ensures.compare a b).order) c.args.leases.now c.args.at.now
    c.range.ensures.ordered c.range.result (c.range.ensures.in_range tt) c.next_back.result c.next_back.new.self
    c.next_back.ensures.steps

pub returns-clause-none : goal.returns-clause-none
returns-clause-none g c =
    last_missing _ (λ a b. (c.ip_nets_compare_by_network.ensures.compare a b).order) c.args.leases.now c.args.at.now
    c.range.ensures.ordered c.range.result (c.range.ensures.in_range tt) c.next_back.result c.next_back.new.self
    c.next_back.ensures.steps
