-- The plan is in the set of the image.
use Rattle.std.proofs.Common.{map, rules}
use Rattle.ipnet.specs.NetworkOf.{ip_network}
use Rattle.ipnet_c.proofs.plans.plan_text.Goals as goal

pub returns-in-Ok-lines_of_networks-clause-plan : goal.returns-in-Ok-lines_of_networks-clause-plan
returns-in-Ok-lines_of_networks-clause-plan c =
    let (family, is) = c.requires in record {
      first = c.in-Ok.first;
      first_image = c.in-Ok.ensures;
      family = family;
      number_is = is;
      networks = map ip_network c.in-Ok-networks_for.networks.items;
      plan = c.in-Ok-networks_for.ensures.plan family is;
      keeps = c.in-Ok-networks_for.ensures.keeps family is;
      spelled = search rules;
    }

pub returns-in-Err-Exhausted-clause-none : goal.returns-in-Err-Exhausted-clause-none
returns-in-Err-Exhausted-clause-none c = λ e.
    let (family, is) = c.requires in record {
      first = c.in-Ok.first;
      first_image = c.in-Ok.ensures;
      family = family;
      number_is = is;
      none = search rules;
    }
