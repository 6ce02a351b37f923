use Rattle.std.proofs.lemmas.Result.{IfOk-weaker}
use Rattle.ipnet.specs.NetworkOf.{ip_network}
use Rattle.ipnet_sets.specs.Members.{IsMember}
use Rattle.ipnet_maps.specs.Classes.{HasLevelClass, level_classes}
use Rattle.ipnet_maps.specs.Drawings.{IsDrawingOf}
use Rattle.ipnet_maps.proofs.ListsLaws.{set_drawing}
use Rattle.ipnet_maps.proofs.drawing.draw_set.Goals as goal

pub returns : goal.returns
returns c =
    let frame = ip_network c.args.frame.now in
    let part = c.in_ok-part.part in
    let set = c.args.set.now in
    IfOk-weaker c.draw_to-2.result (IsDrawingOf (IsMember part) (HasLevelClass (IsMember part)) level_classes frame)
    (IsDrawingOf (IsMember set) (HasLevelClass (IsMember set)) level_classes frame)
    (λ d h. set_drawing set part frame c.in_ok-part.ensures.members d h) c.draw_to-2.ensures
