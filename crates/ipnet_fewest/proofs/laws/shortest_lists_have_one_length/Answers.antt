use Rattle.ipnet_fewest.specs.Shortest.{AreEqualBy}
use Rattle.ipnet_fewest.proofs.AlikeLaws.{one_length, again_as_long}
use Rattle.ipnet_fewest.proofs.laws.shortest_lists_have_one_length.Goals as goal

pub returns-clause-again : goal.returns-clause-again
returns-clause-again g c = again_as_long (AreEqualBy g.V.Ord.cmp)

pub returns-clause-alike : goal.returns-clause-alike
returns-clause-alike g c = one_length (AreEqualBy g.V.Ord.cmp)
