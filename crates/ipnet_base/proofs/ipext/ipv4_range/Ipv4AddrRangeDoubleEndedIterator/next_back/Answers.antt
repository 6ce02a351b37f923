-- The stored ends determine the step (`RangeCallLaws`), so only the ends are proved of the code.
use Rattle.std.proofs.Common.{rules}
use Rattle.ipnet_base.proofs.RangeCallLaws.{yields_last, range_step_back}
use Rattle.ipnet_base.proofs.ipext.ipv4_range.Ipv4AddrRangeDoubleEndedIterator.next_back.Goals as goal

pub returns-else-self-last-2-clause-goes : goal.returns-else-self-last-2-clause-goes
returns-else-self-last-2-clause-goes c = range_step_back (search rules)

pub returns-else-self-last-2-clause-steps : goal.returns-else-self-last-2-clause-steps
returns-else-self-last-2-clause-steps c = yields_last (returns-else-self-last-2-clause-goes c)

pub returns-clause-goes : goal.returns-clause-goes
returns-clause-goes c = range_step_back (search rules)

pub returns-clause-steps : goal.returns-clause-steps
returns-clause-steps c = yields_last (returns-clause-goes c)
