-- One route more.
use Rattle.std.proofs.Common.{take, sym, subst, arith}
use Rattle.std.proofs.lemmas.List.{take_all}
use Rattle.ipnet.specs.NetworkOf.{ip_network}
use Rattle.ipnet_routes.specs.Routes.{ip_networks}
use Rattle.ipnet_routes.specs.RouteLengths.{IsKnown, AreKnown}
use Rattle.ipnet_routes.proofs.KnownLengthLaws.{known_nothing, routes_more}
use Rattle.ipnet_routes.proofs.route_map.lengths.KnownLengths.add_all.Goals as goal

pub loop-index-init : goal.loop-index-init
loop-index-init g c = record {
  keeps = λ networks known. known;
  known = known_nothing c.args.self.now.masks.items c.args.self.now.width;
}

pub loop-index-preserved : goal.loop-index-preserved
loop-index-preserved g c =
    let list = c.args.routes.now in
    let i = c.loop-index.index in
    let route = c.index-routes-index.result in
    let new = c.add.new.self in
    record {
      keeps = λ networks known. c.add.ensures.keeps networks (c.loop-index.invariant.keeps networks known);
      known = routes_more new.masks.items new.width list i route (omega arith)
          c.index-routes-index.is (c.add.ensures.keeps (ip_networks (take i list)) c.loop-index.invariant.known)
          (subst (λ z. IsKnown new.masks.items new.width (ip_network z.0)) (sym c.index-routes-index.is)
          c.add.ensures.known);
    }

pub returns-clause-known : goal.returns-clause-known
returns-clause-known g c =
    let s = c.loop-index.self in
    subst (λ z. AreKnown s.masks.items s.width (ip_networks z))
    (take_all c.loop-index.index c.args.routes.now (omega arith))
    c.loop-index.invariant.known
