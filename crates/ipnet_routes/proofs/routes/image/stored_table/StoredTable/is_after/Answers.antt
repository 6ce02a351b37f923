-- The network that was read is the network of the table before this place.
use Rattle.std.proofs.Common.{◌≡◌, ◌-◌, Bool, true, false, refl, sym, ◌∙◌, subst, arith}
use Rattle.ipnet_base.specs.Network.{IsBefore}
use Rattle.ipnet_base.proofs.ListLaws.{one_place}
use Rattle.ipnet.specs.NetworkOf.{ip_network}
use Rattle.ipnet_routes.specs.Routes.{networks_of}
use Rattle.ipnet_routes.proofs.RouteLaws.{less_gives, not_less_gives, not_back}
use Rattle.ipnet_routes.proofs.TableImageLaws.{found_at, none_read}
use Rattle.ipnet_routes.proofs.routes.image.stored_table.StoredTable.is_after.Goals as goal

yes_of : (b : Bool) → (b ≡ false → ⊥) → b ≡ true
yes_of true out = refl
yes_of false out = absurd (out refl)

pub returns-in-Some : goal.returns-in-Some
returns-in-Some c t h =
    let n = ip_network c.args.network.now in
    let before = c.in-Some.before in
    let b = ip_network before.network in
    let found = found_at c.args.self.now.bytes.now t h (c.args.place - 1) before c.route.result
    (omega (arith, c.requires, c.if-place-eq0.false)) c.route.ensures.read c.in-Some.is in
    let order = c.ip_nets_compare_by_network.ensures.compare before.network c.args.network.now in (
      λ yes k at e. subst (λ z. IsBefore z n)
          (one_place (networks_of t) b k found.at at (omega (arith, found.at_is, e)))
          (less_gives before.network c.args.network.now order (sym c.lt.ensures ∙ yes)),
      λ all. yes_of c.lt.result (λ no. not_back b n
          (all b found.at (omega (arith, found.at_is, c.if-place-eq0.false)))
          (not_less_gives before.network c.args.network.now order (sym c.lt.ensures ∙ no))),
    )

pub returns-in-None : goal.returns-in-None
returns-in-None c t h = (
  λ e. let apart : false ≡ true = e in absurd (cc),
  λ all. absurd (none_read c.args.self.now.bytes.now t h (c.args.place - 1) c.route.result
      (omega (arith, c.requires, c.if-place-eq0.false)) c.route.ensures.read c.in-None.is),
)
