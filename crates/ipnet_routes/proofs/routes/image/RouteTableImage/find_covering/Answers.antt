-- The route at the place that was found is the longest; without a place there is none.
use Rattle.std.proofs.Common.{◌≡◌, ◌-◌, true, false, refl, sym, ap, ◌∙◌, subst, arith}
use Rattle.ipnet_base.specs.Network.{IsSubnetOf}
use Rattle.ipnet.specs.NetworkOf.{ip_network}
use Rattle.ipnet.specs.NetLaws.{ip_valid}
use Rattle.ipnet_routes.proofs.TableImageLaws.{found_at, none_read, same_some, image_none, image_some}
use Rattle.ipnet_routes.proofs.routes.image.RouteTableImage.find_covering.Goals as goal

pub returns-then-place-eq0-clause-none : goal.returns-then-place-eq0-clause-none
returns-then-place-eq0-clause-none c t h =
    let (limit, after, near) = c.holder-place.ensures.place t h.table in (
      λ e k has sub. image_none c.args.self.now.table.bytes.now t h.table.held (ip_network c.args.network.now)
          (ip_valid c.args.network.now) limit c.holder-place.result c.if-place-eq0.true after near k has sub,
      λ out. refl,
    )

pub returns-in_err-route-clause-none : goal.returns-in_err-route-clause-none
returns-in_err-route-clause-none c t h =
    absurd (none_read c.args.self.now.table.bytes.now t h.table.held (c.holder-place.result - 1) c.route.result
    (omega (arith, c.holder-place.ensures.within, c.if-place-eq0.false)) c.route.ensures.read c.in_err-route.was)

pub returns-clause-some : goal.returns-clause-some
returns-clause-some c t h =
    let (limit, after, near) = c.holder-place.ensures.place t h.table in
    image_some c.args.self.now.table.bytes.now t h.table.held (ip_network c.args.network.now)
    (ip_valid c.args.network.now) limit c.holder-place.result c.in_ok-route.route
    (omega (arith, c.if-place-eq0.false))
    (found_at c.args.self.now.table.bytes.now t h.table.held (c.holder-place.result - 1) c.in_ok-route.route
    c.route.result (omega (arith, c.holder-place.ensures.within, c.if-place-eq0.false)) c.route.ensures.read
    c.in_ok-route.was)
    after near

pub returns-clause-none : goal.returns-clause-none
returns-clause-none c t h =
    let found = found_at c.args.self.now.table.bytes.now t h.table.held (c.holder-place.result - 1) c.in_ok-route.route
    c.route.result (omega (arith, c.holder-place.ensures.within, c.if-place-eq0.false)) c.route.ensures.read
    c.in_ok-route.was in (
      λ e. let apart : true ≡ false = e in absurd (cc),
      λ out. absurd (out (ip_network c.in_ok-route.route.network) found.at (returns-clause-some c t h).holds),
    )

pub returns-clause-holds : goal.returns-clause-holds
returns-clause-holds c =
    let near = c.holder-place.ensures.stored (omega (arith, c.if-place-eq0.false)) in
    let got = c.route.ensures.read near.route.0 near.route.1 near.link near.valid near.row in
    let same : got.route ≡ c.in_ok-route.route =
    same_some c.route.result got.route c.in_ok-route.route got.is c.in_ok-route.was in
    subst (IsSubnetOf (ip_network c.args.network.now)) (sym got.network_is ∙ ap (λ z. ip_network z.network) same)
    near.holds

pub returns-clause-stored : goal.returns-clause-stored
returns-clause-stored c = record {
  place = c.holder-place.result - 1;
  within = omega (arith, c.holder-place.ensures.within, c.if-place-eq0.false);
  link = c.in_ok-route.route.link;
  row = c.in_ok-route.ensures.stored;
}
