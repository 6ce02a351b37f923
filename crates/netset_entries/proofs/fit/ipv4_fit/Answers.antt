-- The fewest networks, for the number of addresses that the percentage allows.
use Rattle.ipnet_base.specs.Address.{IPv4}
use Rattle.ipnet_sets.specs.Members.{IsMember, IsMemberOf}
use Rattle.std.proofs.Common.{◌+◌, ◌*◌}
use Rattle.netset_entries.proofs.FitLaws.{spare_some, spare_none}
use Rattle.netset_entries.proofs.fit.ipv4_fit.Goals as goal

pub returns-in-Spare-clause-some : goal.returns-in-Spare-clause-some
returns-in-Spare-clause-some c =
    let count = 100 * c.ipv4_hundreds.result.hundreds + c.ipv4_hundreds.result.rest in
    spare_some (IsMemberOf IPv4 c.args.set.now) (IsMember c.args.never.now) c.args.limit c.in-Spare.percent count
    c.percentage-spare.result c.in-Spare.is c.ipv4_hundreds.ensures.count c.percentage-spare.ensures
    c.fewest_ipv4_networks.result c.fewest_ipv4_networks.ensures.fewest

pub returns-in-Spare-clause-none : goal.returns-in-Spare-clause-none
returns-in-Spare-clause-none c =
    let count = 100 * c.ipv4_hundreds.result.hundreds + c.ipv4_hundreds.result.rest in
    spare_none (IsMemberOf IPv4 c.args.set.now) (IsMember c.args.never.now) c.args.limit c.in-Spare.percent count
    c.percentage-spare.result c.in-Spare.is c.ipv4_hundreds.ensures.count c.percentage-spare.ensures
    c.fewest_ipv4_networks.result c.fewest_ipv4_networks.ensures.none
