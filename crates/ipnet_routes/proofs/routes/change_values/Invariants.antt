-- The routes read so far have their networks, and values that are made of their values.
use Rattle.ipnet_routes.specs.RouteSteps.{AreChanged}
use Rattle.ipnet_routes.proofs.routes.change_values.Given as goal

abbrev pub invariant-loop-route : goal.invariant-loop-route
invariant-loop-route g l = record {
  callable : goal.F-IsAlwaysCallable g l.change;
  changed : AreChanged (goal.F-post g l.fn.change) l.yielded l.changed.items;
}
