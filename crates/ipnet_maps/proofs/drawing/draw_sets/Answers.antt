use Rattle.std.proofs.Common.{Any, subst, sym}
use Rattle.std.specs.List.{AllZip}
use Rattle.std.proofs.lemmas.Result.{IfOk-weaker}
use Rattle.ipnet.specs.NetworkOf.{ip_network}
use Rattle.ipnet_sets.specs.Members.{IsMember}
use Rattle.ipnet_maps.specs.Classes.{HasSharedClass, shared_classes}
use Rattle.ipnet_maps.specs.Drawings.{IsDrawingOf}
use Rattle.ipnet_maps.specs.Lists.{IsPartOf}
use Rattle.ipnet_maps.proofs.ListsLaws.{parts_inside, sets_drawing}
use Rattle.ipnet_maps.proofs.drawing.draw_sets.Goals as goal

pub draw_to-requires-2-clause-inside : goal.draw_to-requires-2-clause-inside
draw_to-requires-2-clause-inside c =
    parts_inside (ip_network c.args.frame.now) c.args.sets.now c.as_slice.result.now
    (subst (AllZip (IsPartOf (ip_network c.args.frame.now)) c.args.sets.now) (sym c.as_slice.ensures.value)
    c.in_ok-parts.ensures)

pub returns : goal.returns
returns c =
    let frame = ip_network c.args.frame.now in
    let parts = c.as_slice.result.now in
    let sets = c.args.sets.now in
    IfOk-weaker c.draw_to-2.result (IsDrawingOf (λ x. Any (λ set. IsMember set x) parts) (HasSharedClass parts)
    (shared_classes parts) frame)
    (IsDrawingOf (λ x. Any (λ set. IsMember set x) sets) (HasSharedClass sets) (shared_classes sets) frame)
    (λ d h. sets_drawing sets parts frame
    (subst (AllZip (IsPartOf frame) sets) (sym c.as_slice.ensures.value) c.in_ok-parts.ensures) d h) c.draw_to-2.ensures
