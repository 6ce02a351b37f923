-- A network that the topmost covers adds nothing; another one is put on the stack.
use Rattle.std.proofs.Common.{◌≡◌, ◌-◌, ◌<◌, ◌≤◌, List, Contains, map, take, length, ◌∙◌, sym, ap, subst, arith}
use Rattle.ipnet_base.specs.Network.{Network, IsSubnetOf}
use Rattle.ipnet_base.proofs.ResultLaws.{true_gives, false_gives}
use Rattle.ipnet_base.proofs.StackLaws.{stack_covers}
use Rattle.ipnet.proofs.FrontLaws.{front_length, front_last}
use Rattle.ipnet.proofs.aggregate.push_on_stack.Goals as goal
use Rattle.ipnet.proofs.aggregate.push_on_stack.Goals.{else-stacked-gt0-via-then-stacked-gt0+else-covers}
use Rattle.ipnet.proofs.aggregate.push_on_stack.Goals.{else-stacked-gt0-via-else-stacked-gt0}

pub put_or_join-requires-clause-list : goal.put_or_join-requires-clause-list
put_or_join-requires-clause-list g c = c.requires.joined.truncated

pub returns-then-covers-clause-stack : goal.returns-then-covers-clause-stack
returns-then-covers-clause-stack g c =
    let net = g.N.Net.network in
    let xs = c.args.list.now in
    let n = c.args.stacked in
    let t = c.index-list-stacked.result in
    let stack : List Network = map net (take n xs) in
    let within : n ≤ length xs = omega arith in
    let some : 0 < n = omega arith in
    let size : length stack ≡ n = front_length net xs n within in
    let in_stack : Contains stack (net t) =
    (length stack - 1, omega (arith, size), front_last net xs n t some within c.index-list-stacked.is (net t)) in
    let sub : IsSubnetOf (net c.args.network) (net t) =
    subst (λ z. IsSubnetOf (net c.args.network) (net z)) (sym c.index-list-stacked.is)
    (true_gives c.covers.result c.covers.ensures c.if-covers.true) in
    stack_covers stack (net c.args.network) (net t) c.requires.joined c.requires.order in_stack sub

-- the topmost does not cover the network, so the two can only be halves of one supernet
pub returns-clause-stack : goal.returns-clause-stack
returns-clause-stack g c =
    let net = g.N.Net.network in
    let xs = c.args.list.now in
    let n = c.args.stacked in
    let within : n ≤ length xs = omega arith in
    let size : length (map net (take n xs)) ≡ n = front_length net xs n within in
    c.put_or_join.ensures.stack c.requires.joined c.requires.order
    (λ d l s. elim c.else-stacked-gt0.branch [
      | else-stacked-gt0-via-then-stacked-gt0+else-covers w ↦
          let some : 0 < n = omega arith in
          false_gives w.covers.result w.covers.ensures w.if-covers.false
          (subst (IsSubnetOf (net c.args.network))
          (front_last net xs n w.index-list-stacked.result some within w.index-list-stacked.is d
          ∙ ap net w.index-list-stacked.is) s)
      | else-stacked-gt0-via-else-stacked-gt0 w ↦ omega (arith, size, l, w.if-stacked-gt0.false)
    ])
