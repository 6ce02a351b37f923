use Rattle.std.proofs.Common.{IfSome, IfNone, subst, arith}
use Rattle.ipnet.specs.NetworkOf.{ip_network}
use Rattle.ipnet_maps.specs.Lists.{IsTooDeep, IsDrawnAt}
use Rattle.ipnet_maps.proofs.ListsLaws.{depth_less, deeper_less, drawing_done}
use Rattle.ipnet_maps.proofs.drawing.+draw_to.Goals as goal

pub draw_to-requires : goal.draw_to-requires
draw_to-requires t c =
    let lists = c.args.lists.now in
    let frame = ip_network c.args.frame.now in
    let many : IsTooDeep lists frame c.args.depth
    = subst (λ z. IfNone z (IsTooDeep lists frame c.args.depth)) c.in-None.is c.in_ok-drawing.ensures.many in
    let more = many.0 in (
      omega (arith, more),
      (
        depth_less frame c.args.depth c.requires.depth more,
        (
          c.requires.inside,
          deeper_less lists frame c.args.depth c.requires.depth c.requires.deeper many,
        ),
      ),
    )

pub returns-in-Some : goal.returns-in-Some
returns-in-Some t c =
    let lists = c.args.lists.now in
    let frame = ip_network c.args.frame.now in
    drawing_done lists frame c.args.depth c.in-Some.drawing c.requires.depth c.requires.deeper
    (subst (λ z. IfSome z (IsDrawnAt lists frame c.args.depth)) c.in-Some.is c.in_ok-drawing.ensures.drawn)
