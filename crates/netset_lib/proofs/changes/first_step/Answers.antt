-- Neither of the two networks comes before the other, so they are one network.
use Rattle.std.proofs.Common.{◌≡◌, ◌∷◌, map, sym, ◌∙◌, ap}
use Rattle.ipnet.specs.NetworkOf.{ip_network}
use Rattle.ipnet_routes.proofs.RouteLaws.{not_less_gives}
use Rattle.netset_lib.proofs.ChangeLaws.{neither_before}
use Rattle.netset_lib.proofs.changes.first_step.Goals as goal

pub returns-else-lt-2-clause-step : goal.returns-else-lt-2-clause-step
returns-else-lt-2-clause-step c =
    let a = c.in-Some-Some.removed.now in
    let b = c.in-Some-Some.added.now in
    let law = c.ip_nets_compare_by_network.ensures.compare in
    let same : ip_network b ≡ ip_network a =
    neither_before (ip_network a) (ip_network b)
    (not_less_gives a b (law a b) (sym c.lt.ensures ∙ c.if-lt.false))
    (not_less_gives b a (law b a) (sym c.lt-in-Some-Some.ensures ∙ c.if-lt-2.false)) in (
      ip_network a,
      ap (map ip_network) c.in-Some-Some.ensures.cases.0,
      ap (map ip_network) c.in-Some-Some.ensures'.cases.0
          ∙ ap (λ z. z ∷ map ip_network c.in-Some-Some.after_rest.now) same,
    )
