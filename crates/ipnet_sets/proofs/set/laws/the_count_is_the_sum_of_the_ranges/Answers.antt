use Rattle.ipnet_sets.specs.Members.{IsMember}
use Rattle.ipnet_sets.proofs.CountSums.{count_by_ranges}
use Rattle.ipnet_sets.proofs.set.laws.the_count_is_the_sum_of_the_ranges.Goals as goal

pub returns : goal.returns
returns c s ranges n h k = count_by_ranges (IsMember s) ranges n h k
