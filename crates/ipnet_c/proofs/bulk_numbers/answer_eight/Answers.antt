-- The numbers are the eight addresses from the start on.
use Rattle.std.proofs.Common.{arith}
use Rattle.ipnet_c.proofs.ColumnLaws.{lanes_none, lanes_more, eight_answered}
use Rattle.ipnet_c.proofs.bulk_numbers.answer_eight.Goals as goal

pub loop-lane-init : goal.loop-lane-init
loop-lane-init c = lanes_none c.args.start c.contains_eight-inside.result c.args.answers.now

pub loop-lane-preserved : goal.loop-lane-preserved
loop-lane-preserved c =
    lanes_more c.args.start c.loop-lane.lane c.contains_eight-inside.result c.args.answers.now c.loop-lane.answers
    c.from.result c.loop-lane.invariant
    (omega (arith, c.loop-lane-test.true, c.loop-lane.auto.answers, c.requires.room, c.requires.lens))
    c.from.ensures

pub returns-clause-done : goal.returns-clause-done
returns-clause-done c =
    eight_answered c.args.image.now.bytes.now c.args.addresses.now c.copy_from_slice.new.self
    c.contains_eight-inside.result c.args.start c.loop-lane.lane c.args.answers.now c.loop-lane.answers
    c.copy_from_slice.ensures.after c.contains_eight-inside.ensures c.loop-lane.invariant
    (omega (arith, c.loop-lane-test.false))
