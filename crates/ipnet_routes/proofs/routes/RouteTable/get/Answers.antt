-- If the table has the network, its place is just before the place after it, so only the route there is compared.
use Rattle.std.proofs.Common.{◌≡◌, ◌-◌, true, false, length, Contains, refl, sym, ap, ◌∙◌, subst, subst₂, arith}
use Rattle.std.proofs.lemmas.List.{length-map}
use Rattle.ipnet_base.specs.Network.{truncation}
use Rattle.ipnet_base.proofs.ResultLaws.{true_gives, false_gives}
use Rattle.ipnet_base.proofs.NetworkLaws.{truncation_from_relation}
use Rattle.ipnet.specs.NetworkOf.{ip_network}
use Rattle.ipnet_routes.specs.Routes.{ip_networks}
use Rattle.ipnet_routes.specs.RouteSteps.{IsPlaceAfter}
use Rattle.ipnet_routes.specs.RoutesOf.{routes_of}
use Rattle.ipnet_routes.proofs.RouteLaws.{read_at, same_networks, found_network}
use Rattle.ipnet_routes.proofs.routes.RouteTable.get.Goals as goal

pub returns-then-place-eq0-clause-none : goal.returns-then-place-eq0-clause-none
returns-then-place-eq0-clause-none g c =
    let table = c.args.self.now in
    let list = table.routes.items in
    let t = ip_network c.trunc-network.result in
    let after : IsPlaceAfter (ip_networks list) t c.place_after-place.result
    = subst (λ z. IsPlaceAfter (ip_networks z) t c.place_after-place.result) c.as_slice.ensures.value
    c.place_after-place.ensures in
    let same : t ≡ truncation (ip_network c.args.network.now)
    = truncation_from_relation t (ip_network c.args.network.now) c.trunc-network.ensures in (
      λ e has. omega (
        arith,
        (found_network list table.table t c.place_after-place.result after
            (subst₂ (λ ns n. Contains ns n) (same_networks list) (sym same) has)).0,
      ),
      λ h. refl,
    )

pub returns-then-not-is_same-clause-none : goal.returns-then-not-is_same-clause-none
returns-then-not-is_same-clause-none g c =
    let table = c.args.self.now in
    let list = table.routes.items in
    let t = ip_network c.trunc-network.result in
    let after : IsPlaceAfter (ip_networks list) t c.place_after-place.result
    = subst (λ z. IsPlaceAfter (ip_networks z) t c.place_after-place.result) c.as_slice.ensures.value
    c.place_after-place.ensures in
    let same : t ≡ truncation (ip_network c.args.network.now)
    = truncation_from_relation t (ip_network c.args.network.now) c.trunc-network.ensures in (
      λ e has. false_gives c.is_same.result c.is_same.ensures c.if-not-is_same.true
          ((found_network list table.table t c.place_after-place.result after
          (subst₂ (λ ns n. Contains ns n) (same_networks list) (sym same) has)).1 c.index-route.result.now
          c.index-route.ensures),
      λ h. refl,
    )

pub returns-clause-none : goal.returns-clause-none
returns-clause-none g c =
    let table = c.args.self.now in
    let list = table.routes.items in
    let route = c.index-route.result.now in
    let place = c.place_after-place.result in
    let t = ip_network c.trunc-network.result in
    let same : t ≡ truncation (ip_network c.args.network.now)
    = truncation_from_relation t (ip_network c.args.network.now) c.trunc-network.ensures in
    let found : ip_network route.0 ≡ t = true_gives c.is_same.result c.is_same.ensures c.if-not-is_same.false in
    let has : Contains (ip_networks list) (ip_network route.0) = read_at (λ r. ip_network r.0) list (place - 1) route
    (omega (
      arith,
      c.place_after-place.ensures.within,
      length-map list (λ r. ip_network r.0),
      ap (λ z. length (ip_networks z)) c.as_slice.ensures.value,
    )) c.index-route.ensures in (
      λ e. let apart : true ≡ false = e in absurd (cc),
      λ out. absurd (out (subst₂ (λ ns n. Contains ns n) (sym (same_networks list)) (found ∙ same) has)),
    )

pub returns-clause-some : goal.returns-clause-some
returns-clause-some g c =
    let table = c.args.self.now in
    let list = table.routes.items in
    let route = c.index-route.result.now in
    let place = c.place_after-place.result in
    let t = ip_network c.trunc-network.result in
    let same : t ≡ truncation (ip_network c.args.network.now)
    = truncation_from_relation t (ip_network c.args.network.now) c.trunc-network.ensures in
    let found : ip_network route.0 ≡ t = true_gives c.is_same.result c.is_same.ensures c.if-not-is_same.false in
    subst (λ n. Contains (routes_of table) (n, route.1)) (found ∙ same)
    (read_at (λ r. (ip_network r.0, r.1)) list (place - 1) route
    (omega (
      arith,
      c.place_after-place.ensures.within,
      length-map list (λ r. ip_network r.0),
      ap (λ z. length (ip_networks z)) c.as_slice.ensures.value,
    )) c.index-route.ensures)
