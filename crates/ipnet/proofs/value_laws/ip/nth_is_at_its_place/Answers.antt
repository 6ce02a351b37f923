use Rattle.ipnet.specs.SubnetsLeft.{ip_subnets_left}
use Rattle.ipnet.proofs.ValueFacts.{nth_of_list, member_from_nth}
use Rattle.ipnet.specs.NetworkOf.{ip_network}
use Rattle.ipnet.proofs.value_laws.ip.nth_is_at_its_place.Goals as goal

pub returns-clause-item : goal.returns-clause-item
returns-clause-item c h =
    (nth_of_list ip_network ip_subnets_left c.args.before.now c.args.after.now c.args.place c.args.answer.now h).0

pub returns-clause-member : goal.returns-clause-member
returns-clause-member c h =
    member_from_nth ip_network ip_subnets_left c.args.before.now c.args.after.now c.args.place c.args.answer.now h

pub returns-clause-left : goal.returns-clause-left
returns-clause-left c h =
    (nth_of_list ip_network ip_subnets_left c.args.before.now c.args.after.now c.args.place c.args.answer.now h).1
