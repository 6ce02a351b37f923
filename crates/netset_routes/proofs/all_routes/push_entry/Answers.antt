use Rattle.std.proofs.Common.{◌≡◌, ◌∙◌, ◌++◌, ◌⊎◌, true, length, ap, inl, inr, refl, rules, string_bytes}
use Rattle.std.proofs.lemmas.List.{length-map}
use Rattle.std.proofs.lemmas.Result.{on_ok_weaker}
use Rattle.ipnet.specs.NetworkOf.{ip_network}
use Rattle.ipnet_lists.specs.FoundEntry.{entry_of}
use Rattle.ipnet_routes.specs.Routes.{ip_routes}
use Rattle.netset_lib.specs.Routing.{HoldsEnds}
use Rattle.netset_routes.specs.AllRouteSteps.{IsMissingBy}
use Rattle.netset_routes.specs.AllRoutes.{AreHolders, holder_lines}
use Rattle.netset_routes.proofs.AllRouteLaws.{none_missing, some_there}
use Rattle.netset_routes.proofs.all_routes.push_entry.Goals.{then-is_empty, else-is_empty}
use Rattle.netset_routes.proofs.all_routes.push_entry.Goals as goal

pub returns : goal.returns
returns c =
    let table = c.args.table.now.table in
    let old = c.args.made.now in
    let made = c.if-is_empty.made in
    let e = entry_of c.args.written.now c.args.entry in
    let routes = c.in_ok-routes.routes.items in
    let held : AreHolders table (HoldsEnds e) (ip_routes routes) = c.in_ok-routes.ensures in
    let size : length (ip_routes routes) ≡ length routes = length-map routes (λ q. (ip_network q.0, q.1)) in
    let same : string_bytes made.text ≡ string_bytes old.text = elim c.if-is_empty.branch [
      | then-is_empty w ↦ ap (λ m. string_bytes m.text) w.made-is
      | else-is_empty w ↦ ap (λ m. string_bytes m.text) w.made-is
    ] in
    let missing : (IsMissingBy table e × (made.missing ≡ true))
    ⊎ ((¬ (IsMissingBy table e)) × (made.missing ≡ old.missing)) =
    elim c.if-is_empty.branch [
      | then-is_empty w ↦
          inl (none_missing table e (ip_routes routes) held (size ∙ search rules), ap (λ m. m.missing) w.made-is)
      | else-is_empty w ↦
          inr (some_there table e (ip_routes routes) held (search rules), ap (λ m. m.missing) w.made-is)
    ] in
    on_ok_weaker c.push_holders.result
    (λ text. record {
      lines = holder_lines e.text (ip_routes routes);
      right = (ip_routes routes, held, refl);
      text = text ∙ ap (λ z. z ++ holder_lines e.text (ip_routes c.as_slice.result.now)) same
          ∙ ap (λ z. string_bytes old.text ++ holder_lines e.text (ip_routes z)) c.as_slice.ensures.value;
      missing = missing;
    })
    c.push_holders.ensures
