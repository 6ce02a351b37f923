use Rattle.ipnet_sets.proofs.SetAlgebra.{subset_difference}
use Rattle.ipnet_sets.proofs.set.laws.difference_of_a_subset_is_empty.Goals as goal

pub returns : goal.returns
returns c a b difference = subset_difference a b difference
