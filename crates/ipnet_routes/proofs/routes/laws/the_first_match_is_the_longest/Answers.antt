use Rattle.ipnet_routes.proofs.RouteMatchLaws.{first_is_longest}
use Rattle.ipnet_routes.proofs.routes.laws.the_first_match_is_the_longest.Goals as goal

pub returns : goal.returns
returns g c routes x first others h = first_is_longest routes x first others h
