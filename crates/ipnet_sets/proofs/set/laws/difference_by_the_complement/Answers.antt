use Rattle.ipnet_sets.proofs.SetAlgebra.{difference_complement}
use Rattle.ipnet_sets.proofs.set.laws.difference_by_the_complement.Goals as goal

pub returns : goal.returns
returns c a b not_b s = difference_complement a b not_b s
