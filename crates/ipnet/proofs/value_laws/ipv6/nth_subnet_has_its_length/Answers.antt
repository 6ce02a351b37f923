use Rattle.ipnet.specs.SubnetsLeft.{ipv6_subnets_left}
use Rattle.ipnet.proofs.ValueFacts.{nth_has_length}
use Rattle.ipnet.specs.NetworkOf.{ipv6_network}
use Rattle.ipnet.proofs.value_laws.ipv6.nth_subnet_has_its_length.Goals as goal

pub returns : goal.returns
returns c prefix_len subnets h =
    nth_has_length ipv6_network ipv6_subnets_left c.args.before.now c.args.after.now c.args.place c.args.answer.now h
    (ipv6_network c.args.net.now) prefix_len subnets
