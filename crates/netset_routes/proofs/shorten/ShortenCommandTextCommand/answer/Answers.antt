use Rattle.std.proofs.Common.{◌∙◌, ap}
use Rattle.ipnet_routes.specs.RoutesOf.{routes_of}
use Rattle.netset_routes.specs.Shortening.{route_lines}
use Rattle.netset_routes.proofs.ShortenLaws.{shortened}
use Rattle.netset_routes.proofs.shorten.ShortenCommandTextCommand.answer.Goals as goal

pub returns-clause-text : goal.returns-clause-text
returns-clause-text c =
    let shortest = c.in_ok-shortest.shortest in
    record {
      routes = routes_of shortest;
      shortest = shortened (routes_of c.args.self.table) (routes_of shortest) c.in_ok-shortest.ensures;
      networks = c.table_is_in_order.ensures.networks;
      truncated = c.table_is_in_order.ensures.truncated;
      ascending = c.routes.ensures.ascending;
      is = c.in_ok-text.ensures ∙ ap (λ z. route_lines z) c.routes.ensures.routes;
    }
