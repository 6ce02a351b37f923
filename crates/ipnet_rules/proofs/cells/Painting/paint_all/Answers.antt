-- The cells of one piece more.
use Rattle.ipnet_rules.proofs.PaintingLaws.{painted_next}
use Rattle.ipnet_rules.proofs.cells.Painting.paint_all.Goals as goal

pub loop-piece-preserved : goal.loop-piece-preserved
loop-piece-preserved c = (
  c.paint.ensures.skips,
  painted_next c.args.cuts.now c.args.place c.args.pieces.now c.loop-piece.piece-index _ c.span_of.result
      c.args.self.now c.loop-piece.self c.paint.new.self c.loop-piece-test.true c.requires.within c.requires.place
      (c.span_of.ensures c.requires.cuts) c.loop-piece.invariant.1 c.paint.ensures.painted,
)
