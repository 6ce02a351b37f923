-- The values of the routes, sorted, and each once.
use Rattle.std.proofs.Common.{[], ◌∷◌, ◌++◌, arith, sym, ap, ◌∙◌, subst, take_all}
use Rattle.std.specs.List.Sorted.{IsSorted}
use Rattle.ipnet_base.proofs.ListLaws.{contains_nil}
use Rattle.ipnet_routes.specs.Routes.{ip_routes}
use Rattle.ipnet_fewest.specs.Numbers.{HasValuesOf}
use Rattle.ipnet_fewest.proofs.ListedLaws.{has_push}
use Rattle.ipnet_fewest.proofs.numbers.distinct_values.Goals as goal

pub loop-index-init : goal.loop-index-init
loop-index-init g c r in_none = absurd (contains_nil r in_none)

pub loop-index-preserved : goal.loop-index-preserved
loop-index-preserved g c =
    has_push c.args.routes.now c.loop-index.index c.index-routes-index.result c.loop-index-test.true
    c.index-routes-index.is g.V.Ord.cmp g.met.V.Ord.total c.with_room-limit.new.values.items c.push.new.self.items
    (λ r in_front. c.with_room-limit.ensures r.1 (c.loop-index.invariant r in_front))
    (c.in_ok-push.ensures.items
    ∙ ap (λ r. c.with_room-limit.new.values.items ++ r.1 ∷ []) (sym c.index-routes-index.is))

pub returns-clause-sorted : goal.returns-clause-sorted
returns-clause-sorted g c =
    subst (IsSorted g.V.Ord.cmp) (sym c.shrink_to_fit.ensures.items) c.drop_repeated.ensures.sorted

pub returns-clause-all : goal.returns-clause-all
returns-clause-all g c =
    subst (HasValuesOf g.V.Ord.cmp (ip_routes c.args.routes.now)) (sym c.shrink_to_fit.ensures.items)
    (λ r c_r. c.drop_repeated.ensures.kept r.1
    (subst (λ z. HasValuesOf g.V.Ord.cmp (ip_routes z) c.loop-index.values.items)
    (take_all c.loop-index.index c.args.routes.now (omega arith)) c.loop-index.invariant r c_r))
