use Rattle.std.proofs.Common.{◌≡◌, ◌<◌, ◌∙◌, ◌++◌, ◌∷◌, [], List, AllPairs, length, map, rules, sym, ap, subst}
use Rattle.std.proofs.Common.{get_or, take}
use Rattle.std.proofs.lemmas.Bool.{true≢false}
use Rattle.std.proofs.lemmas.Iterator.Consumers.{YieldsList-from_first, YieldsList-turn, YieldsList-end}
use Rattle.std.proofs.lemmas.Iterator.Consumers.{YieldsList-so_far}
use Rattle.std.proofs.lemmas.List.{length-map, map-append}
use Rattle.ipnet_base.specs.Address.{address_at}
use Rattle.ipnet_base.specs.Network.{InBlock, Network}
use Rattle.ipnet.specs.NetworkOf.{ip_network}
use Rattle.ipnet_lists.specs.EntryOf.{entry_range}
use Rattle.ipnet_routes.specs.Routes.{AreMatches, Route, ip_route, ip_routes}
use Rattle.ipnet_routes.specs.RoutesOf.{routes_of}
use Rattle.ipnet_routes.specs.MatchesLeft.{matches_left}
use Rattle.netset_routes.proofs.AllRouteLaws.{HasKept, LongerFirst, Text, all_kept, none_kept, one_kept, one_passed}
use Rattle.netset_routes.proofs.AllRouteLaws.{walk_pairs}
use Rattle.netset_routes.proofs.all_routes.holders.Goals as goal

pub loop-route-init : goal.loop-route-init
loop-route-init c =
    let range = entry_range c.args.entry in
    let Has : Network → Type 0 = λ n. InBlock n (address_at range.family range.end) in
    record {
      can_next = search rules;
      is_finite = search rules;
      kept = subst (λ z. HasKept Has [] (ip_routes z)) (sym c.new-holders.ensures.items) (none_kept Has);
    }

pub loop-route-preserved-in-Continue-1 : goal.loop-route-preserved-in-Continue-1
loop-route-preserved-in-Continue-1 c =
    let range = entry_range c.args.entry in
    let table = c.args.table.now in
    let Has : Network → Type 0 = λ n. InBlock n (address_at range.family range.end) in
    let all : List (Route Text) = matches_left c.matches-route-items.result in
    let walk : AreMatches (routes_of table) (address_at range.family range.start) all =
    subst (λ x. AreMatches (routes_of table) x all) c.ends-first.ensures.first c.matches-route-items.ensures in
    let road = YieldsList-from_first ip_route matches_left {s = c.into_iter-route-iterator.result} all
    (search rules) in
    let turn = YieldsList-turn road c.loop-route.yielded c.loop-route.route-iterator c.loop-route.yielded_by
    c.next.result c.next.new.self c.in-Some.route c.in-Some.is c.next.ensures.steps in
    let r = c.in-Some.route in
    let walked : List (Route Text) = map ip_route c.loop-route.yielded in
    let size : length walked ≡ length c.loop-route.yielded = length-map c.loop-route.yielded ip_route in
    let so_far = YieldsList-so_far road c.loop-route.yielded c.loop-route.route-iterator c.loop-route.yielded_by in
    let pairs : AllPairs LongerFirst (walked ++ ip_route r ∷ []) =
    walk_pairs all walked (ip_route r) walk.longest_first (so_far ∙ ap (λ k. take k all) (sym size))
    (subst (λ k. k < length all) (sym size) turn.0)
    (turn.1 ∙ ap (λ k. get_or all k (ip_route r)) (sym size)) in
    let kept = c.loop-route.holders.items in
    let has : Has (ip_network r.now.0) =
    subst (InBlock (ip_network r.now.0)) c.ends-first.ensures.last (c.contains.ensures.0 c.if-contains.true) in
    let one = one_kept Has walked (ip_routes kept) (ip_route r) pairs c.loop-route.invariant.kept has in
    record {
      can_next = search rules;
      is_finite = search rules;
      kept = subst (λ z. HasKept Has z (ip_routes c.push.new.self.items))
          (sym (map-append ip_route c.loop-route.yielded (r ∷ [])))
          (subst (HasKept Has (walked ++ ip_route r ∷ []))
          (sym (ap (λ z. ip_routes z) c.in_ok-push.ensures.items
          ∙ map-append (λ q. (ip_network q.0, q.1)) kept ((r.now.0, r.now.1) ∷ []))) one);
    }

pub loop-route-preserved : goal.loop-route-preserved
loop-route-preserved c =
    let range = entry_range c.args.entry in
    let table = c.args.table.now in
    let Has : Network → Type 0 = λ n. InBlock n (address_at range.family range.end) in
    let all : List (Route Text) = matches_left c.matches-route-items.result in
    let walk : AreMatches (routes_of table) (address_at range.family range.start) all =
    subst (λ x. AreMatches (routes_of table) x all) c.ends-first.ensures.first c.matches-route-items.ensures in
    let road = YieldsList-from_first ip_route matches_left {s = c.into_iter-route-iterator.result} all
    (search rules) in
    let turn = YieldsList-turn road c.loop-route.yielded c.loop-route.route-iterator c.loop-route.yielded_by
    c.next.result c.next.new.self c.in-Some.route c.in-Some.is c.next.ensures.steps in
    let r = c.in-Some.route in
    let walked : List (Route Text) = map ip_route c.loop-route.yielded in
    let size : length walked ≡ length c.loop-route.yielded = length-map c.loop-route.yielded ip_route in
    let so_far = YieldsList-so_far road c.loop-route.yielded c.loop-route.route-iterator c.loop-route.yielded_by in
    let pairs : AllPairs LongerFirst (walked ++ ip_route r ∷ []) =
    walk_pairs all walked (ip_route r) walk.longest_first (so_far ∙ ap (λ k. take k all) (sym size))
    (subst (λ k. k < length all) (sym size) turn.0)
    (turn.1 ∙ ap (λ k. get_or all k (ip_route r)) (sym size)) in
    let kept = c.loop-route.holders.items in
    let lacks : ¬ (Has (ip_network r.now.0)) =
    λ has. true≢false
    (sym (c.contains.ensures.1 (subst (InBlock (ip_network r.now.0)) (sym c.ends-first.ensures.last) has))
    ∙ c.if-contains.false) in
    record {
      can_next = search rules;
      is_finite = search rules;
      kept = subst (λ z. HasKept Has z (ip_routes kept)) (sym (map-append ip_route c.loop-route.yielded (r ∷ [])))
          (one_passed Has walked (ip_routes kept) (ip_route r) pairs c.loop-route.invariant.kept lacks);
    }

pub returns : goal.returns
returns c =
    let range = entry_range c.args.entry in
    let table = c.args.table.now in
    let all : List (Route Text) = matches_left c.matches-route-items.result in
    let walk : AreMatches (routes_of table) (address_at range.family range.start) all =
    subst (λ x. AreMatches (routes_of table) x all) c.ends-first.ensures.first c.matches-route-items.ensures in
    let road = YieldsList-from_first ip_route matches_left {s = c.into_iter-route-iterator.result} all
    (search rules) in
    let end = YieldsList-end road c.loop-route.yielded c.loop-route.route-iterator c.loop-route.yielded_by
    c.next.result c.next.new.self c.in-None.is c.next.ensures.steps in
    all_kept table range (map ip_route c.loop-route.yielded) (ip_routes c.loop-route.holders.items)
    (subst (AreMatches (routes_of table) (address_at range.family range.start)) (sym end.0) walk)
    c.loop-route.invariant.kept
