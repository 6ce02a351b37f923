-- Only the value of the route before the place is lent: the networks, and so the links, stay as they are.
use Rattle.std.proofs.Common.{◌≡◌, ◌-◌, ◌<◌, length, Contains, true, false, refl, sym, ap, ◌∙◌, subst, subst₂, arith}
use Rattle.std.proofs.Common.{set}
use Rattle.std.proofs.Math.Seq.{map-set_same}
use Rattle.std.proofs.lemmas.List.{length-map, length-set}
use Rattle.ipnet_base.specs.Network.{truncation}
use Rattle.ipnet_base.proofs.ResultLaws.{true_gives, false_gives}
use Rattle.ipnet_base.proofs.ListLaws.{at_place}
use Rattle.ipnet_base.proofs.NetworkLaws.{truncation_from_relation}
use Rattle.ipnet.specs.NetworkOf.{ip_network}
use Rattle.ipnet_routes.specs.Routes.{ip_networks, ip_routes}
use Rattle.ipnet_routes.specs.RouteSteps.{IsTable, IsPlaceAfter, AreLinks}
use Rattle.ipnet_routes.specs.RouteMaps.{IsWithRoute}
use Rattle.ipnet_routes.specs.RoutesOf.{routes_of}
use Rattle.ipnet_routes.proofs.RouteLaws.{read_at, same_networks, found_network}
use Rattle.ipnet_routes.proofs.RouteMapChanges.{routes_replaced}
use Rattle.ipnet_routes.proofs.routes.RouteTable.get_mut.Goals as goal

pub returns-then-place-eq0 : goal.returns-then-place-eq0
returns-then-place-eq0 g c =
    let table = c.args.self.now in
    let list = table.routes.items in
    let t = ip_network c.trunc-network.result in
    let after : IsPlaceAfter (ip_networks list) t c.place_after-place.result
    = subst (λ z. IsPlaceAfter (ip_networks z) t c.place_after-place.result) c.as_slice.ensures.value
    c.place_after-place.ensures in
    let same : t ≡ truncation (ip_network c.args.network.now)
    = truncation_from_relation t (ip_network c.args.network.now) c.trunc-network.ensures in (
      (refl, λ w. tt, refl),
      record {
        writes_back = tt;
        none = (
          λ e has. omega (
            arith,
            (found_network list table.table t c.place_after-place.result after
                (subst₂ (λ ns n. Contains ns n) (same_networks list) (sym same) has)).0,
          ),
          λ h. refl,
        );
        some = tt;
      },
    )

pub returns-then-not-is_same : goal.returns-then-not-is_same
returns-then-not-is_same g c =
    let table = c.args.self.now in
    let list = table.routes.items in
    let t = ip_network c.trunc-network.result in
    let after : IsPlaceAfter (ip_networks list) t c.place_after-place.result
    = subst (λ z. IsPlaceAfter (ip_networks z) t c.place_after-place.result) c.as_slice.ensures.value
    c.place_after-place.ensures in
    let same : t ≡ truncation (ip_network c.args.network.now)
    = truncation_from_relation t (ip_network c.args.network.now) c.trunc-network.ensures in (
      (refl, λ w. tt, refl),
      record {
        writes_back = tt;
        none = (
          λ e has. false_gives c.is_same.result c.is_same.ensures c.if-not-is_same.true
              ((found_network list table.table t c.place_after-place.result after
              (subst₂ (λ ns n. Contains ns n) (same_networks list) (sym same) has)).1 c.index.result.now
              c.index.ensures),
          λ h. refl,
        );
        some = tt;
      },
    )

pub invariant_of-self-lent : goal.invariant_of-self-lent
invariant_of-self-lent g c w =
    let table = c.args.self.now in
    let list = table.routes.items in
    let route = c.index_mut.result.now in
    let place = c.place_after-place.result in
    let kept : ip_networks (set list (place - 1) (route.0, w)) ≡ ip_networks list
    = map-set_same (λ r. ip_network r.0) list (place - 1) (route.0, w) route
    (ap (λ r. ip_network r.0) c.index_mut.ensures.value) in (
      subst IsTable (sym kept) table.table,
      (
        subst (λ ns. AreLinks ns table.enclosing.items) (sym kept) table.links,
        (table.all ∙ sym (length-set list (place - 1) (route.0, w)), tt),
      ),
    )

pub returns : goal.returns
returns g c =
    let table = c.args.self.now in
    let list = table.routes.items in
    let route = c.index_mut.result.now in
    let place = c.place_after-place.result in
    let t = ip_network c.trunc-network.result in
    let same : t ≡ truncation (ip_network c.args.network.now)
    = truncation_from_relation t (ip_network c.args.network.now) c.trunc-network.ensures in
    let inside : place - 1 < length list = omega (
      arith,
      c.if-place-eq0.false,
      c.place_after-place.ensures.within,
      length-map list (λ r. ip_network r.0),
      ap (λ z. length (ip_networks z)) c.as_slice.ensures.value,
    ) in
    let at : route ≡ c.index.result.now
    = c.index_mut.ensures.value ∙ at_place list (place - 1) route c.index.result.now inside ∙ sym c.index.ensures in
    let found : ip_network route.0 ≡ t
    = ap (λ r. ip_network r.0) at ∙ true_gives c.is_same.result c.is_same.ensures c.if-not-is_same.false in (
      (
        refl,
        λ w. subst (λ n. IsWithRoute (ip_routes list) (n, w) (ip_routes (set list (place - 1) (route.0, w))))
            (found ∙ same) (routes_replaced list table.table (place - 1) route inside (sym c.index_mut.ensures.value)
            (set list (place - 1) (route.0, w)) w refl),
        refl,
      ),
      record {
        writes_back = tt;
        none = (
          λ e. let apart : true ≡ false = e in absurd (cc),
          λ out. absurd (out (subst₂ (λ ns n. Contains ns n) (sym (same_networks list)) (found ∙ same)
              (read_at (λ r. ip_network r.0) list (place - 1) route inside c.index_mut.ensures.value))),
        );
        some = subst (λ n. Contains (routes_of table) (n, route.1)) (found ∙ same)
            (read_at (λ r. (ip_network r.0, r.1)) list (place - 1) route inside c.index_mut.ensures.value);
      },
    )
