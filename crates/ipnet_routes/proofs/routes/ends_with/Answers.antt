-- A list that is not empty ends with the item at its last place.
use Rattle.std.proofs.Common.{◌≡◌, ◌+◌, ◌-◌, length, true, false, sym, ap, ◌∙◌, arith}
use Rattle.std.proofs.lemmas.Bool.{eqb-true}
use Rattle.std.proofs.lemmas.List.{length-map, get_or-map, length_push}
use Rattle.ipnet.specs.NetworkOf.{ip_network}
use Rattle.ipnet_routes.specs.Routes.{ip_networks}
use Rattle.ipnet_sets.proofs.InsideLaws.{some_from_empty}
use Rattle.ipnet_routes.proofs.RouteOrderLaws.{ends_at, end_of}
use Rattle.ipnet_routes.proofs.routes.ends_with.Goals as goal

pub returns-then-is_empty : goal.returns-then-is_empty
returns-then-is_empty g c =
    let list = c.args.routes.now in
    let none : length list ≡ 0 = eqb-true (length list) 0 (sym c.is_empty.ensures ∙ c.if-is_empty.true) in (
      λ never. let apart : false ≡ true = never in absurd (cc),
      λ ends. absurd (omega (
        arith,
        none,
        length-map list (λ z. ip_network z.0),
        ap length ends.1,
        length_push ends.0 (ip_network c.args.network.now),
      )),
    )

pub returns : goal.returns
returns g c =
    let list = c.args.routes.now in
    let n = ip_network c.args.network.now in
    let some = some_from_empty (length list) c.is_empty.result c.is_empty.ensures c.if-is_empty.false in
    let size : length (ip_networks list) ≡ length list - 1 + 1
    = length-map list (λ z. ip_network z.0) ∙ omega (arith, some) in
    let last =
    get_or-map (λ z. ip_network z.0) list (length list - 1) c.index-routes-routes.result n (omega (arith, some)) in (
      λ same. ends_at (ip_networks list) n (length list - 1) size (last ∙ c.is_same.ensures.0 same),
      λ ends. c.is_same.ensures.1 (sym last ∙ end_of (ip_networks list) n (length list - 1) size ends),
    )
