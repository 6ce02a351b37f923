use Rattle.std.proofs.Common.{ap, sym, ◌∙◌}
use Rattle.std.proofs.lemmas.Cmp.{tied_itself, alike_right}
use Rattle.std.specs.Ordering.{ordering_reverse}
use Rattle.ipnet_fewest.proofs.laws.equality_of_values.Goals as goal

pub returns-clause-reflexive : goal.returns-clause-reflexive
returns-clause-reflexive g c v = tied_itself g.met.V.Ord.total v

pub returns-clause-symmetric : goal.returns-clause-symmetric
returns-clause-symmetric g c v w e = g.met.V.Ord.total.antisymm w v ∙ ap ordering_reverse e

pub returns-clause-transitive : goal.returns-clause-transitive
returns-clause-transitive g c u v w first second =
    sym (alike_right g.met.V.Ord.total v w u second) ∙ first
