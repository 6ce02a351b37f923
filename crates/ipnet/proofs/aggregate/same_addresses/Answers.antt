-- Two lists have equal aggregates if and only if they cover the same addresses.
use Rattle.ipnet.proofs.EqualLaws.{equal_tells_cover}
use Rattle.ipnet.proofs.aggregate.same_addresses.Goals as goal

pub returns-clause-addresses : goal.returns-clause-addresses
returns-clause-addresses c =
    equal_tells_cover c.args.networks.now.items c.args.others.now.items c.in_ok-first.first.items
    c.in_ok-second.second.items c.eq.result c.eq.ensures
    c.in_ok-first.ensures.aggregate.aggregate c.in_ok-second.ensures.aggregate.aggregate
