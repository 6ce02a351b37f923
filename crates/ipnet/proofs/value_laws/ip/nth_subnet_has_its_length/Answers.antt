use Rattle.ipnet.specs.SubnetsLeft.{ip_subnets_left}
use Rattle.ipnet.proofs.ValueFacts.{nth_has_length}
use Rattle.ipnet.specs.NetworkOf.{ip_network}
use Rattle.ipnet.proofs.value_laws.ip.nth_subnet_has_its_length.Goals as goal

pub returns : goal.returns
returns c prefix_len subnets h =
    nth_has_length ip_network ip_subnets_left c.args.before.now c.args.after.now c.args.place c.args.answer.now h
    (ip_network c.args.net.now) prefix_len subnets
