use Rattle.ipnet_maps.proofs.BalanceLaws.{map_sides, block_sides}
use Rattle.ipnet_maps.proofs.laws.sides_differ_little.Goals as goal

pub returns-clause-map : goal.returns-clause-map
returns-clause-map c = λ f d le same. map_sides f d le same

pub returns-clause-rectangle : goal.returns-clause-rectangle
returns-clause-rectangle c = λ f d low le same short. block_sides f d low le same short
