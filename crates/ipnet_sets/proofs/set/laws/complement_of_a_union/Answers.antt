use Rattle.ipnet_sets.proofs.SetAlgebra.{union_complement}
use Rattle.ipnet_sets.proofs.set.laws.complement_of_a_union.Goals as goal

pub returns : goal.returns
returns c a b union not_a not_b s = union_complement a b union not_a not_b s
