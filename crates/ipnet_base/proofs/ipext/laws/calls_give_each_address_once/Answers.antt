-- Each call takes what it gives out of the range, and adds nothing (`CallLaws`).
use Rattle.ipnet_base.proofs.CallLaws.{given_from_range, given_once, given_exactly_once, none_stays}
use Rattle.ipnet_base.proofs.ipext.laws.calls_give_each_address_once.Goals as goal

pub returns-clause-of_the_range : goal.returns-clause-of_the_range
returns-clause-of_the_range c = given_from_range

pub returns-clause-at_most_once : goal.returns-clause-at_most_once
returns-clause-at_most_once c = given_once

pub returns-clause-exactly_once : goal.returns-clause-exactly_once
returns-clause-exactly_once c = given_exactly_once

pub returns-clause-none_stays : goal.returns-clause-none_stays
returns-clause-none_stays c = none_stays
