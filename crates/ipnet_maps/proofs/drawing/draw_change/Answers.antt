use Rattle.std.proofs.lemmas.Result.{IfOk-weaker}
use Rattle.ipnet_base.specs.Blocks.{IsInEither}
use Rattle.ipnet.specs.NetworkOf.{ip_network}
use Rattle.ipnet_sets.specs.Members.{IsMember}
use Rattle.ipnet_maps.specs.Classes.{HasChangeClass, change_classes}
use Rattle.ipnet_maps.specs.Drawings.{IsDrawingOf}
use Rattle.ipnet_maps.proofs.ListsLaws.{change_drawing}
use Rattle.ipnet_maps.proofs.drawing.draw_change.Goals as goal

pub returns : goal.returns
returns c =
    let frame = ip_network c.args.frame.now in
    let first = c.in_ok-first.first in
    let second = c.in_ok-second.second in
    let before = c.args.before.now in
    let after = c.args.after.now in
    IfOk-weaker c.draw_to-2.result (IsDrawingOf (IsInEither (IsMember first) (IsMember second))
    (HasChangeClass (IsMember first) (IsMember second)) change_classes frame)
    (IsDrawingOf (IsInEither (IsMember before) (IsMember after)) (HasChangeClass (IsMember before) (IsMember after))
    change_classes frame)
    (λ d h. change_drawing before after first second frame c.in_ok-first.ensures.members
    c.in_ok-second.ensures.members d h)
    c.draw_to-2.ensures
