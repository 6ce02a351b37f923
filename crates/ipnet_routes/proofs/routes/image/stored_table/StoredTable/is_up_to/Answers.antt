-- The network that was read is the network of the table at this place.
use Rattle.std.proofs.Common.{◌≡◌, true, false, refl, sym, ◌∙◌, subst, arith}
use Rattle.ipnet_base.specs.Stack.{IsBeforeOrEqual}
use Rattle.ipnet_base.proofs.ListLaws.{one_place}
use Rattle.ipnet.specs.NetworkOf.{ip_network}
use Rattle.ipnet_routes.specs.Routes.{networks_of}
use Rattle.ipnet_routes.proofs.RouteLaws.{less_gives, not_less_gives, not_back}
use Rattle.ipnet_routes.proofs.TableImageLaws.{as_networks, found_at, none_read}
use Rattle.ipnet_routes.proofs.routes.image.stored_table.StoredTable.is_up_to.Goals as goal

pub returns-then-place-len : goal.returns-then-place-len
returns-then-place-len c t h = (
  λ e k at place. absurd (omega (
    arith,
    place,
    at.1,
    as_networks c.args.self.now.bytes.now t h,
    c.if-place-len.true,
    c.len.ensures,
  )),
  λ all. refl,
)

pub returns-in_default : goal.returns-in_default
returns-in_default c t h = (
  λ e. let apart : false ≡ true = e in absurd (cc),
  λ all. absurd (none_read c.args.self.now.bytes.now t h c.args.place c.route.result
      (omega (arith, c.requires, c.if-place-len.false, c.len.ensures)) c.route.ensures.read c.in_default.is),
)

pub returns-then-lt : goal.returns-then-lt
returns-then-lt c t h =
    let n = ip_network c.args.network.now in
    let next = c.in-Some.next in
    let found = found_at c.args.self.now.bytes.now t h c.args.place next c.route.result
    (omega (arith, c.requires, c.if-place-len.false, c.len.ensures)) c.route.ensures.read c.in-Some.is in
    let order = c.ip_nets_compare_by_network.ensures.compare next.network c.args.network.now in (
      λ e. let apart : false ≡ true = e in absurd (cc),
      λ all. absurd (not_back (ip_network next.network) n
          (less_gives next.network c.args.network.now order (sym c.lt.ensures ∙ c.if-lt.true))
          (all (ip_network next.network) found.at found.at_is)),
    )

pub returns : goal.returns
returns c t h =
    let n = ip_network c.args.network.now in
    let next = c.in-Some.next in
    let found = found_at c.args.self.now.bytes.now t h c.args.place next c.route.result
    (omega (arith, c.requires, c.if-place-len.false, c.len.ensures)) c.route.ensures.read c.in-Some.is in
    let order = c.ip_nets_compare_by_network.ensures.compare next.network c.args.network.now in (
      λ e k at place. subst (IsBeforeOrEqual n)
          (one_place (networks_of t) (ip_network next.network) k found.at at (omega (arith, found.at_is, place)))
          (not_less_gives next.network c.args.network.now order (sym c.lt.ensures ∙ c.if-lt.false)),
      λ all. refl,
    )
