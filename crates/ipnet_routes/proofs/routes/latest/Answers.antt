-- The routes come in order, so the next one can be of the network of the last that is kept, and of no other.
use Rattle.std.proofs.Common.{◌≡◌, ◌↔◌, [], ◌∷◌, ◌++◌, take, length, Contains, rules, map-id, sym, ap, ◌∙◌, subst}
use Rattle.std.proofs.Common.{subst₂}
use Rattle.std.proofs.lemmas.List.{map-append}
use Rattle.std.proofs.lemmas.Iterator.Consumers.{YieldsList-end, YieldsList-turn, YieldsList-so_far}
use Rattle.std.proofs.lemmas.Iterator.Adapters.{YieldsList-from_vec}
use Rattle.ipnet_base.specs.Blocks.{IsAscending}
use Rattle.ipnet.specs.NetworkOf.{ip_network}
use Rattle.ipnet_routes.specs.Routes.{ip_routes, ip_networks, IsLatest}
use Rattle.ipnet_routes.proofs.RouteOrderLaws.{kept_before, latest_more, ascending_push}
use Rattle.ipnet_routes.proofs.routes.latest.Goals as goal

pub drop_last-requires-clause-order : goal.drop_last-requires-clause-order
drop_last-requires-clause-order g c =
    let all = c.args.routes.items in
    let done = c.loop-route.yielded in
    let kept = c.loop-route.kept.items in
    let road = YieldsList-from_vec {s = c.into_iter-route-iterator.result} all (search rules) (search rules) in
    let turn = YieldsList-turn road done c.loop-route.route-iterator c.loop-route.yielded_by c.next.result
    c.next.new.self c.in-Some.route c.in-Some.is c.next.ensures.steps in
    let front : done ≡ take (length done) all
    = sym (map-id done) ∙ YieldsList-so_far road done c.loop-route.route-iterator c.loop-route.yielded_by in
    kept_before all kept (length done) c.in-Some.route c.requires turn.0 (sym turn.1)
    (λ q. subst (λ z. Contains (ip_routes kept) q ↔ IsLatest (ip_routes z) q) front
    (c.loop-route.invariant.members q))

pub loop-route-preserved : goal.loop-route-preserved
loop-route-preserved g c =
    let done = c.loop-route.yielded in
    let old = c.loop-route.kept.items in
    let front = c.drop_last.new.routes.items in
    let new = c.push.new.self.items in
    let r = c.in-Some.route in
    let pushed : new ≡ front ++ r ∷ [] = c.in_ok-push.ensures.items in
    record {
      ascending = subst (λ z. IsAscending (ip_networks z)) (sym pushed)
          (ascending_push front r c.drop_last.ensures.ascending c.drop_last.ensures.before);
      members = λ q. subst₂ (λ x y. Contains x q ↔ IsLatest y q)
          (sym (ap ip_routes pushed ∙ map-append (λ z. (ip_network z.0, z.1)) front (r ∷ [])))
          (sym (map-append (λ z. (ip_network z.0, z.1)) done (r ∷ [])))
          (latest_more (ip_routes done) (ip_routes old) (ip_routes front) (ip_network r.0, r.1)
          c.loop-route.invariant.members c.drop_last.ensures.others q);
    }

pub returns-clause-members : goal.returns-clause-members
returns-clause-members g c q =
    let all = c.args.routes.items in
    let done = c.loop-route.yielded in
    let kept = c.loop-route.kept.items in
    let road = YieldsList-from_vec {s = c.into_iter-route-iterator.result} all (search rules) (search rules) in
    let end = YieldsList-end road done c.loop-route.route-iterator c.loop-route.yielded_by c.next.result
    c.next.new.self c.in-None.is c.next.ensures.steps in
    subst (λ z. Contains (ip_routes kept) q ↔ IsLatest (ip_routes z) q) (sym (map-id done) ∙ end.0)
    (c.loop-route.invariant.members q)
