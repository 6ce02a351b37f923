-- Each route that the other table lacks is put at the end.
use Rattle.std.proofs.Common.{◌≡◌, [], map, refl, sym, ap, ◌∙◌, subst, arith, length}
use Rattle.std.proofs.Common.{get_or}
use Rattle.std.proofs.lemmas.List.{map-append}
use Rattle.ipnet.specs.NetworkOf.{ip_network}
use Rattle.ipnet_base.specs.Network.{IsTruncated}
use Rattle.ipnet_base.proofs.ListLaws.{all_at}
use Rattle.ipnet_routes.specs.Routes.{ip_route, ip_routes, ip_networks, AreLacking}
use Rattle.ipnet_routes.specs.RouteSteps.{same_value, IsTable}
use Rattle.ipnet_routes.specs.RoutesOf.{routes_of}
use Rattle.ipnet_routes.proofs.RouteLaws.{read_at}
use Rattle.ipnet_routes.proofs.RouteLackingLaws.{AreThose, Ascends, none_of_none, found_one, found_none, found_all}
use Rattle.ipnet_routes.proofs.routes.RouteTable.lacking.Goals as goal
use Rattle.ipnet_routes.proofs.routes.RouteTable.lacking.Goals.{then-lacks+in_ok-push, else-lacks}

pub loop-index-init : goal.loop-index-init
loop-index-init g c =
    subst (AreThose Ascends _ []) (sym (ap (map ip_route) c.new-found.ensures.items))
    (none_of_none Ascends _ [] refl)

pub lacks-requires : goal.lacks-requires
lacks-requires g c =
    let list = c.args.self.now.routes.items in
    let x = c.index-routes-index.result in
    all_at IsTruncated (ip_networks list) c.args.self.now.table.truncated (ip_network x.0)
    (read_at (λ r. ip_network r.0) list c.loop-index.index x
    (omega (arith, c.loop-index-test.true, ap length c.as_slice-routes.ensures.value))
    (subst (λ z. x ≡ get_or z c.loop-index.index x) c.as_slice-routes.ensures.value c.index-routes-index.is))

pub loop-index-preserved : goal.loop-index-preserved
loop-index-preserved g c =
    let list = c.as_slice-routes.result.now in
    let x = c.index-routes-index.result in
    let table : IsTable (ip_networks list)
    = subst (λ z. IsTable (ip_networks z)) (sym c.as_slice-routes.ensures.value) c.args.self.now.table in
    elim c.if-lacks.branch [
      | then-lacks+in_ok-push w ↦
          subst (AreThose Ascends _ _)
          (sym (ap (λ z. map ip_route z.items) w.found-is ∙ ap (map ip_route) w.in_ok-push.ensures.items
          ∙ map-append ip_route c.loop-index.found.items _))
          (found_one list table _ c.loop-index.index x c.loop-index-test.true c.index-routes-index.is
          (map ip_route c.loop-index.found.items) (c.lacks.ensures.0 w.if-lacks.true) c.loop-index.invariant)
      | else-lacks w ↦
          subst (AreThose Ascends _ _) (sym (ap (λ z. map ip_route z.items) w.found-is))
          (found_none list table _ c.loop-index.index x c.loop-index-test.true c.index-routes-index.is
          (map ip_route c.loop-index.found.items)
          (λ h. let yes = c.lacks.ensures.1 h in let no = w.if-lacks.false in absurd (cc)) c.loop-index.invariant)
    ]

pub returns : goal.returns
returns g c =
    let list = c.as_slice-routes.result.now in
    subst (λ z. AreLacking (same_value c.args.values_count g.V.PartialEq.eq) (ip_routes z) (routes_of c.args.other.now)
    (map ip_route c.loop-index.found.items)) c.as_slice-routes.ensures.value
    (found_all (same_value c.args.values_count g.V.PartialEq.eq) list (routes_of c.args.other.now)
    (map ip_route c.loop-index.found.items) c.loop-index.index (omega (arith, c.loop-index-test.false))
    c.loop-index.invariant)
