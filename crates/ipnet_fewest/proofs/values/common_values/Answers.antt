-- The lists may be in either order.
use Rattle.std.proofs.lemmas.Result.{IfOk-weaker}
use Rattle.ipnet_fewest.proofs.NumberLaws.{in_other_order}
use Rattle.ipnet_fewest.proofs.values.common_values.Goals as goal

pub returns-clause-members : goal.returns-clause-members
returns-clause-members c =
    IfOk-weaker c.values_in-2.result _ _ (λ values h. in_other_order c.args.second.now c.args.first.now values.items h)
    c.values_in-2.ensures.members
