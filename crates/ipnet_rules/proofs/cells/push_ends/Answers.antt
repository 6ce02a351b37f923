-- The ends of one piece more.
use Rattle.ipnet_rules.proofs.CellLaws.{ends_next}
use Rattle.ipnet_rules.proofs.cells.push_ends.Goals as goal

pub loop-piece-preserved : goal.loop-piece-preserved
loop-piece-preserved c =
    ends_next c.args.cuts.now.items c.loop-piece.cuts.items c.push_piece.new.cuts.items c.args.pieces.now
    c.loop-piece.piece-index _ c.loop-piece-test.true c.loop-piece.invariant c.in_ok-push_piece.ensures
