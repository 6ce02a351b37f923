-- The first half has the first address, and the second half has the last.
use Rattle.ipnet_base.specs.Address.{ip_address}
use Rattle.ipnet.specs.NetLaws.{ip_valid}
use Rattle.ipnet.specs.NetworkOf.{ip_network}
use Rattle.ipnet_fewest.proofs.HalfLaws.{are_halves_of, ordered}
use Rattle.ipnet_fewest.proofs.halves.halves.Goals as goal

pub returns-clause-halves : goal.returns-clause-halves
returns-clause-halves c =
    let around = c.args.around.now in
    are_halves_of (ip_network around) (ip_network c.trunc-first.result) (ip_network c.trunc-second.result)
    (ip_network c.new_assert.result) (ip_network c.new_assert-2.result) c.prefix_len-len.result
    c.prefix_len-len.ensures (ip_address c.network.result) (ip_address c.broadcast.result) (ip_valid around)
    c.requires.truncated c.requires.shorter c.network.ensures c.broadcast.ensures c.new_assert.ensures
    c.new_assert-2.ensures c.trunc-first.ensures c.trunc-second.ensures

pub returns-clause-order : goal.returns-clause-order
returns-clause-order c =
    let around = c.args.around.now in
    ordered (ip_network around) (ip_network c.trunc-first.result) (ip_network c.trunc-second.result)
    (ip_network c.new_assert.result) (ip_network c.new_assert-2.result) c.prefix_len-len.result
    c.prefix_len-len.ensures (ip_address c.network.result) (ip_address c.broadcast.result) (ip_valid around)
    c.requires.truncated c.requires.shorter c.network.ensures c.broadcast.ensures c.new_assert.ensures
    c.new_assert-2.ensures c.trunc-first.ensures c.trunc-second.ensures
