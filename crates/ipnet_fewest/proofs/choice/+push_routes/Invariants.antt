-- The choices that are left get fewer, and a half has fewer.
use Rattle.std.proofs.Common.{◌≤◌, length}
use Rattle.ipnet_routes.specs.Routes.{ip_routes}
use Rattle.ipnet_fewest.proofs.LeftLaws.{AreLeft}
use Rattle.ipnet_fewest.proofs.choice.+push_routes.Given as goal

abbrev pub decreases-push_routes : goal.decreases-push_routes
decreases-push_routes l = length l.choices.now

abbrev pub invariant-loop-choice : goal.invariant-loop-choice
invariant-loop-choice l = (length l.left ≤ length l.fn.choices)
    × AreLeft l.fn.choices l.left (ip_routes l.fn.routes.items) (ip_routes l.routes.items) l.value

abbrev pub decreases-loop-choice : goal.decreases-loop-choice
decreases-loop-choice l = length l.left
