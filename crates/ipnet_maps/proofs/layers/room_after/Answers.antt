use Rattle.std.proofs.Common.{◌≡◌, ◌+◌, ◌<◌, List, length, sym, subst, arith}
use Rattle.std.proofs.lemmas.Bool.Decides.{nat_tests}
use Rattle.ipnet_base.specs.Network.{Network}
use Rattle.ipnet_base.specs.Blocks.{AreMaximalBlocks}
use Rattle.ipnet_sets.specs.Members.{IsMember}
use Rattle.ipnet_sets.specs.NetworksLeft.{networks_left}
use Rattle.ipnet_maps.proofs.LayerLaws.{room_start, one_less, one_too_many, all_fit}
use Rattle.ipnet_maps.proofs.layers.room_after.Goals as goal

pub loop-network-init : goal.loop-network-init
loop-network-init c =
    subst (λ it. (networks : List Network) → AreMaximalBlocks (IsMember c.args.set.now) 0 networks
    → c.args.room + length networks ≡ c.args.room + length (networks_left it))
    (sym c.into_iter-network-iterator.ensures.into_iter_gives)
    (λ networks b. room_start (IsMember c.args.set.now) c.args.room (networks_left c.iter_networks-network-items.result)
    networks c.iter_networks-network-items.ensures b)

pub loop-network-preserved : goal.loop-network-preserved
loop-network-preserved c = λ networks b.
    let some : 0 < c.loop-network.rest = grind (arith, nat_tests, c.if-rest-eq0.false) in
    one_less _ (networks_left c.loop-network._network-iterator) (networks_left c.next.new.self) networks
    c.loop-network.rest c.args.room c.in-Some.ensures.steps some (c.loop-network.invariant networks b)

pub returns-then-rest-eq0 : goal.returns-then-rest-eq0
returns-then-rest-eq0 c = λ networks b.
    let none : c.loop-network.rest ≡ 0 = grind (arith, nat_tests, c.if-rest-eq0.true) in
    one_too_many _ (networks_left c.loop-network._network-iterator) (networks_left c.next.new.self) networks
    c.loop-network.rest c.args.room c.in-Some.ensures.steps none (c.loop-network.invariant networks b)

pub returns : goal.returns
returns c = λ networks b.
    all_fit (networks_left c.loop-network._network-iterator) networks c.loop-network.rest c.args.room
    c.in-None.ensures.steps.0 (c.loop-network.invariant networks b)
