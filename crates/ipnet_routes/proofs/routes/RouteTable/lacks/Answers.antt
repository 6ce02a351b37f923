-- The table has one value for the network at most, and `get` returns it.
use Rattle.std.proofs.Common.{◌≡◌, not, Contains, refl, sym, subst}
use Rattle.ipnet_base.proofs.NetworkLaws.{truncation_of_truncated}
use Rattle.ipnet.specs.NetworkOf.{ip_network}
use Rattle.ipnet_routes.specs.Routes.{networks_of}
use Rattle.ipnet_routes.specs.RouteSteps.{same_value}
use Rattle.ipnet_routes.specs.RoutesOf.{routes_of}
use Rattle.ipnet_routes.proofs.RouteLackingLaws.{lacks_by_value, lacks_without}
use Rattle.ipnet_routes.proofs.routes.RouteTable.lacks.Goals as goal

pub returns-then-values_count : goal.returns-then-values_count
returns-then-values_count g c =
    let table = c.args.self.now in
    let n = ip_network c.args.route.now.0 in
    let value = c.in-Some.value.now in
    let has : Contains (routes_of table) (n, value)
    =
    subst (λ z. Contains (routes_of table) (z, value)) (truncation_of_truncated n c.requires)
    c.in-Some.ensures.some in
    lacks_by_value table.routes.items table.table n value c.args.route.now.1
    (same_value c.args.values_count g.V.PartialEq.eq) c.ne.result has
    (subst (λ b. c.ne.result ≡ not (same_value b g.V.PartialEq.eq value c.args.route.now.1))
    (sym c.if-values_count.true)
    c.ne.ensures)

pub returns-else-values_count : goal.returns-else-values_count
returns-else-values_count g c =
    let table = c.args.self.now in
    let n = ip_network c.args.route.now.0 in
    let value = c.in-Some.value.now in
    let has : Contains (routes_of table) (n, value)
    =
    subst (λ z. Contains (routes_of table) (z, value)) (truncation_of_truncated n c.requires)
    c.in-Some.ensures.some in
    lacks_by_value table.routes.items table.table n value c.args.route.now.1
    (same_value c.args.values_count g.V.PartialEq.eq) c.args.values_count has
    (subst (λ b. b ≡ not (same_value b g.V.PartialEq.eq value c.args.route.now.1)) (sym c.if-values_count.false) refl)

pub returns-in-None : goal.returns-in-None
returns-in-None g c =
    let table = c.args.self.now in
    let n = ip_network c.args.route.now.0 in (
      λ yes w has. lacks_without table.routes.items n c.args.route.now.1
          (same_value c.args.values_count g.V.PartialEq.eq)
          (subst (λ z. Contains (networks_of (routes_of table)) z → ⊥) (truncation_of_truncated n c.requires)
          (c.in-None.ensures.none.0 refl)) w has,
      λ h. refl,
    )
