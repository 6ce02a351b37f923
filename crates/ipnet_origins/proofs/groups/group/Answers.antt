use Rattle.ipnet.specs.NetworkOf.{ip_network}
use Rattle.ipnet_origins.proofs.OrderLaws.{group_of, group_one, group_ranked}
use Rattle.ipnet_origins.proofs.groups.group.Goals as goal

pub returns-clause-group : goal.returns-clause-group
returns-clause-group c =
    group_of c.args.payloads.now (ip_network c.args.network.now) c.start_of-start.result c.args.last c.requires.last
    c.start_of-start.ensures

pub returns-clause-one : goal.returns-clause-one
returns-clause-one c =
    group_one c.args.payloads.now _ (ip_network c.args.network.now)
    (group_of c.args.payloads.now (ip_network c.args.network.now) c.start_of-start.result c.args.last c.requires.last
    c.start_of-start.ensures)

pub returns-clause-ranked : goal.returns-clause-ranked
returns-clause-ranked c =
    group_ranked c.args.payloads.now (ip_network c.args.network.now) c.start_of-start.result c.args.last
    c.requires.ranked c.requires.last c.start_of-start.ensures
