-- The networks of both tables are valid.
use Rattle.ipnet_routes.specs.RoutesOf.{routes_of}
use Rattle.ipnet_fewest.specs.Shortest.{AreEqualBy}
use Rattle.ipnet_fewest.proofs.AlikeLaws.{one_length, again_as_long}
use Rattle.ipnet_fewest.proofs.laws.shortest_tables_have_one_length.Goals as goal

pub returns-clause-again : goal.returns-clause-again
returns-clause-again g c given s t =
    again_as_long (AreEqualBy g.V.Ord.cmp) given (routes_of c.args.shortest.now) (routes_of c.args.other.now)
    c.table_is_in_order.ensures.networks c.table_is_in_order-2.ensures.networks s t

pub returns-clause-alike : goal.returns-clause-alike
returns-clause-alike g c given routes h s t =
    one_length (AreEqualBy g.V.Ord.cmp) given routes (routes_of c.args.shortest.now) (routes_of c.args.other.now)
    c.table_is_in_order.ensures.networks c.table_is_in_order-2.ensures.networks h s t
