-- The list is of numbers that follow one another from the start, so each is known by its place (`RangeLaws`).
use Rattle.ipnet_base.proofs.RangeLaws.{between_from_contains, contains_from_between}
use Rattle.ipnet_base.proofs.RangeLaws.{addresses_ascend, length-addresses_of}
use Rattle.ipnet_base.proofs.ipext.laws.range_lists_what_lies_between.Goals as goal

pub returns-clause-members : goal.returns-clause-members
returns-clause-members c = λ r x. (between_from_contains r x, contains_from_between r x)

pub returns-clause-ascending : goal.returns-clause-ascending
returns-clause-ascending c = addresses_ascend

pub returns-clause-count : goal.returns-clause-count
returns-clause-count c = length-addresses_of
