-- The longest route that is left, and then the routes that hold its supernet.
use Rattle.std.proofs.Common.{rules, length, refl, ap, ◌∙◌, arith}
use Rattle.ipnet.specs.NetworkOf.{ip_network}
use Rattle.ipnet.specs.NetLaws.{ip_valid}
use Rattle.ipnet_routes.specs.Routes.{ip_routes}
use Rattle.ipnet_routes.specs.RouteMapSteps.{all_of, holders_of}
use Rattle.ipnet_routes.proofs.RouteMapMatches.{holders_none, holders_after}
use Rattle.ipnet_routes.proofs.route_map.matches.MapMatchesIterator.next.Goals as goal

pub returns-clause-steps : goal.returns-clause-steps
returns-clause-steps g c =
    let s = c.args.self.now in
    let list = all_of s.chunks.now in
    let route = c.in-Some-covering_in.route.now in
    ap (holders_of (ip_routes list)) c.in-Some.is
    ∙ holders_after list s.table (ip_network c.in-Some.wanted) (ip_valid c.in-Some.wanted) (ip_network route.0, route.1)
    c.in-Some-covering_in.ensures.some c.supernet-self.result c.supernet-self.ensures.none c.supernet-self.ensures.some

pub returns-clause-goes : goal.returns-clause-goes
returns-clause-goes g c =
    let more = ap length (returns-clause-steps g c) in
    record {
      on = λ finite. (search rules, search rules, omega (arith, more));
      keeps = search rules;
      rests = search rules;
    }

pub returns-in_default-covering_in-clause-steps : goal.returns-in_default-covering_in-clause-steps
returns-in_default-covering_in-clause-steps g c =
    let s = c.args.self.now in
    let list = all_of s.chunks.now in (
      ap (holders_of (ip_routes list)) c.in-Some.is
          ∙ holders_none list s.table (ip_network c.in-Some.wanted) (ip_valid c.in-Some.wanted)
          (c.in_default-covering_in.ensures.none.0 refl),
      refl,
    )
