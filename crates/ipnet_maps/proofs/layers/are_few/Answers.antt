use Rattle.std.proofs.Common.{◌≤◌, refl, arith}
use Rattle.ipnet_base.specs.Blocks.{AreMaximalBlocks}
use Rattle.ipnet_base.proofs.ResultLaws.{never}
use Rattle.ipnet_sets.specs.Members.{IsMember}
use Rattle.ipnet_maps.specs.Drawings.{total_of}
use Rattle.ipnet_maps.proofs.LayerLaws.{room_begin, room_more, room_lacks, room_end}
use Rattle.ipnet_maps.proofs.layers.are_few.Goals as goal

pub loop-class-init : goal.loop-class-init
loop-class-init c = room_begin (λ d list. AreMaximalBlocks (IsMember d.cells) 0 list) c.args.cells.now

pub loop-class-preserved : goal.loop-class-preserved
loop-class-preserved c =
    room_more (λ d list. AreMaximalBlocks (IsMember d.cells) 0 list) c.args.cells.now c.loop-class.class-index
    c.class-item.result c.loop-class.room c.in-Some.rest c.loop-class-test.true c.class-item.is c.in-Some.ensures
    c.loop-class.invariant

pub returns-in-None : goal.returns-in-None
returns-in-None c = λ networks zip.
    let more = room_lacks (λ d list. AreMaximalBlocks (IsMember d.cells) 0 list) c.args.cells.now
    c.loop-class.class-index c.class-item.result c.loop-class.room c.loop-class-test.true c.class-item.is
    c.in-None.ensures c.loop-class.invariant networks zip in
    never (total_of networks ≤ 65536) (λ le. omega (arith, le, more))

pub returns : goal.returns
returns c = λ networks zip.
    let few = room_end (λ d list. AreMaximalBlocks (IsMember d.cells) 0 list) c.args.cells.now
    c.loop-class.class-index c.loop-class.room c.loop-class-test.false c.loop-class.invariant networks zip in
    (λ t. few, λ le. refl)
