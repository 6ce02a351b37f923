use Rattle.ipnet_sets.specs.Members.{IsMember}
use Rattle.ipnet_maps.proofs.SharedLaws.{two_more, two_whole, in_either}
use Rattle.ipnet_maps.proofs.shared.in_two_of.Goals as goal

pub loop-set-preserved : goal.loop-set-preserved
loop-set-preserved c =
    two_more IsMember c.args.sets.now c.loop-set.set-index c.set-item.result (IsMember c.loop-set.some)
    (IsMember c.loop-set.two) (IsMember c.in_ok-some.some) (IsMember c.in_ok-two.two)
    c.loop-set-test.true c.set-item.is c.loop-set.invariant c.in_ok-some.ensures.members
    (λ x. in_either (c.in_ok-two.ensures.members x) (c.in_ok-again.ensures.members x))

pub returns : goal.returns
returns c = λ x. two_whole IsMember c.args.sets.now c.loop-set.set-index (IsMember c.loop-set.some)
    (IsMember c.loop-set.two) c.loop-set-test.false c.loop-set.invariant x
