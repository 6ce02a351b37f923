use Rattle.std.proofs.Common.{◌≡◌, ◌+◌, ◌∙◌, Contains, map, take, sym, ap, subst}
use Rattle.std.specs.List.{AllZip}
use Rattle.std.proofs.lemmas.Result.{IfOk-weaker}
use Rattle.ipnet.specs.NetworkOf.{ip_network}
use Rattle.ipnet_routes.specs.Routes.{networks_of, ip_routes}
use Rattle.ipnet_routes.specs.RoutesOf.{routes_of}
use Rattle.ipnet_routes.proofs.RouteLaws.{same_networks}
use Rattle.svg_maps.specs.FreeOutlines.{largest_first}
use Rattle.svg_maps.specs.NamedOutlines.{IsNamedOutline, AreNamedOutlines}
use Rattle.svg_maps.proofs.NamedLaws.{within_inside, within_named}
use Rattle.svg_maps.proofs.named.named_outlines.Goals as goal

pub largest_outlines-requires-clause-inside : goal.largest_outlines-requires-clause-inside
largest_outlines-requires-clause-inside c =
    let routes = c.within-routes.result.now in
    let same : map ip_network c.as_slice.result.now ≡ networks_of (ip_routes routes)
    = ap (map ip_network) c.as_slice.ensures.value ∙ c.in_ok-networks.ensures ∙ sym (same_networks routes) in
    λ n m. within_inside (routes_of c.args.names.now) (ip_routes routes) (ip_network c.args.frame.now)
    c.within-routes.ensures n (subst (λ z. Contains z n) same m)

pub largest_outlines-requires-clause-named : goal.largest_outlines-requires-clause-named
largest_outlines-requires-clause-named c =
    let routes = c.within-routes.result.now in
    let same : map ip_network c.as_slice.result.now ≡ networks_of (ip_routes routes)
    = ap (map ip_network) c.as_slice.ensures.value ∙ c.in_ok-networks.ensures ∙ sym (same_networks routes) in
    λ n m. record {
      listed = within_named c.args.names.now (ip_routes routes) (ip_network c.args.frame.now) c.within-routes.ensures n
          (subst (λ z. Contains z n) same m);
    }

pub returns : goal.returns
returns c =
    let frame = ip_network c.args.frame.now in
    let names = routes_of c.args.names.now in
    let depth = c.args.depth in
    let routes = c.within-routes.result.now in
    let same : map ip_network c.as_slice.result.now ≡ networks_of (ip_routes routes)
    = ap (map ip_network) c.as_slice.ensures.value ∙ c.in_ok-networks.ensures ∙ sym (same_networks routes) in
    IfOk-weaker c.largest_outlines.result (λ list. AllZip (IsNamedOutline names frame depth)
    (take 1500 (largest_first (map ip_network c.as_slice.result.now) frame.prefix_len (depth + 1))) list.items)
    (λ list. AreNamedOutlines names frame depth list.items) (λ list each. record {
      within = ip_routes routes;
      are_within = c.within-routes.ensures;
      each = subst (λ z. AllZip (IsNamedOutline names frame depth)
          (take 1500 (largest_first z frame.prefix_len (depth + 1))) list.items) same each;
    }) c.largest_outlines.ensures
