use Rattle.ipnet_sets.proofs.SetAlgebra.{intersection_complement}
use Rattle.ipnet_sets.proofs.set.laws.complement_of_an_intersection.Goals as goal

pub returns : goal.returns
returns c a b both not_a not_b s = intersection_complement a b both not_a not_b s
