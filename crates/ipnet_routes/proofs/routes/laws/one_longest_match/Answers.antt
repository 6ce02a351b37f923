use Rattle.ipnet_routes.proofs.RouteLaws.{one_match}
use Rattle.ipnet_routes.proofs.routes.laws.one_longest_match.Goals as goal

pub returns : goal.returns
returns g c table x r s h k = one_match table.routes.items table.table x r s h k
