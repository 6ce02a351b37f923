-- Each route that is read is put at the end, with its changed value.
use Rattle.std.proofs.Common.{[], ◌∷◌, ◌++◌, refl, sym, subst}
use Rattle.ipnet_routes.specs.RouteSteps.{AreChanged}
use Rattle.ipnet_routes.proofs.RouteChangeLaws.{changed_push}
use Rattle.ipnet_routes.proofs.routes.change_values.Goals as goal

pub loop-route-preserved : goal.loop-route-preserved
loop-route-preserved g c =
    let old = c.loop-route.changed.items in
    let done = c.loop-route.yielded in
    let r = c.in-Some.route in
    record {
      callable = c.loop-route.invariant.callable;
      changed = subst (AreChanged _ (done ++ r ∷ [])) (sym c.in_ok-push.ensures.items)
          (changed_push _ done old r (r.0, c.change.result) c.loop-route.invariant.changed refl c.change.ensures);
    }
