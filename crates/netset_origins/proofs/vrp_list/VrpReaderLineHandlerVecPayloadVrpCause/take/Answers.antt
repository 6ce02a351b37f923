use Rattle.std.proofs.Common.{[], ◌∷◌, inr, refl}
use Rattle.netset_origins.proofs.vrp_list.VrpReaderLineHandlerVecPayloadVrpCause.take.Goals as goal

pub returns-in_ok-push-in-Ok : goal.returns-in_ok-push-in-Ok
returns-in_ok-push-in-Ok c =
    (c.in-Ok.vrp ∷ [], inr (c.in-Ok.vrp, c.in-Ok.ensures.vrp, refl), c.in_ok-push-in-Ok.ensures.items)
