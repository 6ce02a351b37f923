-- A step takes the route before the place, and goes on at its link.
use Rattle.std.proofs.Common.{◌-◌, ◌<◌, rules, length, get_or, ap, arith}
use Rattle.ipnet_base.proofs.ListLaws.{at_place}
use Rattle.ipnet_routes.proofs.RouteMatchLaws.{links_back, way_from, link_inside}
use Rattle.ipnet_routes.proofs.routes.matches.RouteMatchesIterator.next.Goals as goal

pub invariant_of-self : goal.invariant_of-self
invariant_of-self g c =
    let s = c.args.self.now in
    let l : s.place - 1 < length s.enclosing.now = omega (arith, s.within, c.if-self-eq0.false) in
    record {
      links = s.links;
      within = omega (arith, links_back s.routes.now s.enclosing.now s.links (s.place - 1) l, s.within);
    }

pub returns-clause-steps : goal.returns-clause-steps
returns-clause-steps g c =
    let s = c.args.self.now in
    let l : s.place - 1 < length s.enclosing.now = omega (arith, s.within, c.if-self-eq0.false) in
    let list = s.routes.now in
    let d = c.index-self-index.result in
    let r = get_or list (s.place - 1) d in
    way_from list s.enclosing.now s.links s.place (s.place - 1) (omega (arith, c.if-self-eq0.false)) r l
    (at_place list (s.place - 1) d r (link_inside list s.enclosing.now s.links (s.place - 1) l))

pub returns-clause-goes : goal.returns-clause-goes
returns-clause-goes g c =
    let more = ap length (returns-clause-steps g c) in
    record {
      on = λ finite. (search rules, search rules, omega (arith, more));
      keeps = search rules;
      rests = search rules;
    }
