use Rattle.ipnet_sets.specs.Members.{IsMember}
use Rattle.ipnet_sets.proofs.ManyLaws.{both_ways}
use Rattle.ipnet_bars.specs.Parts.{HasSome}
use Rattle.ipnet_maps.specs.Cells.{IsInCell}
use Rattle.ipnet_maps.proofs.SharedLaws.{two_more, two_whole, two_of_cells, in_either, in_both}
use Rattle.ipnet_maps.proofs.shared.cells_in_two_of.Goals as goal

pub loop-set-preserved : goal.loop-set-preserved
loop-set-preserved c =
    two_more (λ set. IsInCell c.args.cell_len (HasSome (IsMember set))) c.args.sets.now c.loop-set.set-index
    c.set-item.result (IsMember c.loop-set.some) (IsMember c.loop-set.two) (IsMember c.in_ok-some.some)
    (IsMember c.in_ok-two.two) c.loop-set-test.true c.set-item.is c.loop-set.invariant
    (λ x. in_either (c.in_ok-some.ensures.members x) (c.in_ok-cells.ensures x))
    (λ x. in_either (c.in_ok-two.ensures.members x)
    (in_both (c.in_ok-again.ensures.members x) (c.in_ok-cells.ensures x)))

pub returns : goal.returns
returns c = λ x. both_ways
    (two_whole (λ set. IsInCell c.args.cell_len (HasSome (IsMember set))) c.args.sets.now c.loop-set.set-index
    (IsMember c.loop-set.some) (IsMember c.loop-set.two) c.loop-set-test.false c.loop-set.invariant x)
    (two_of_cells (λ set. HasSome (IsMember set)) c.args.cell_len c.args.sets.now x)
