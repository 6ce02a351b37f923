-- The stored ends determine the step (`RangeCallLaws`), so only the ends are proved of the code.
use Rattle.std.proofs.Common.{rules}
use Rattle.ipnet_base.proofs.RangeCallLaws.{yields_first, range_step}
use Rattle.ipnet_base.proofs.ipext.ipv6_range.Ipv6AddrRangeIterator.next.Goals as goal

pub returns-else-first-self-2-clause-goes : goal.returns-else-first-self-2-clause-goes
returns-else-first-self-2-clause-goes c = range_step (search rules)

pub returns-else-first-self-2-clause-steps : goal.returns-else-first-self-2-clause-steps
returns-else-first-self-2-clause-steps c = yields_first (returns-else-first-self-2-clause-goes c)

pub returns-clause-goes : goal.returns-clause-goes
returns-clause-goes c = range_step (search rules)

pub returns-clause-steps : goal.returns-clause-steps
returns-clause-steps c = yields_first (returns-clause-goes c)
