-- Each step joins the last network of the front and the next one to their supernet, which covers what the two did; the
-- front of a stack still has nothing to join.
use Rattle.std.proofs.Common.{◌≡◌, ◌-◌, ◌<◌, ◌≤◌, List, map, take, length, get_or, ◌∙◌, sym, ap, subst, arith}
use Rattle.std.proofs.lemmas.List.Elements.{All-map}
use Rattle.ipnet_base.specs.Network.{Network, IsNetwork, AreHalves, IsSupernetOf}
use Rattle.ipnet_base.specs.Stack.{IsListWith, IsStackWith}
use Rattle.ipnet_base.proofs.AddingLaws.{IsAdding, adding_start, adding_step, adding_end}
use Rattle.ipnet_base.proofs.ListLaws.{at_place}
use Rattle.ipnet_base.proofs.ResultLaws.{true_gives, false_gives}
use Rattle.ipnet_base.proofs.StackLaws.{IsJoining, joining_start, joining_step, joining_end}
use Rattle.ipnet.proofs.FrontLaws.{front_more, front_length, front_last, front_push}
use Rattle.ipnet.proofs.aggregate.put_or_join.Goals as goal
use Rattle.ipnet.proofs.aggregate.put_or_join.Goals.{then-loop-front-test+else-is_other_half, else-loop-front-test}

pub loop-front-init : goal.loop-front-init
loop-front-init g c =
    let net = g.N.Net.network in
    let front = take c.args.kept c.args.list.now in
    record {
      at_most = omega arith;
      adding = adding_start (map net front) (net c.args.network) c.requires.list c.requires.network;
      joining = λ joined order out.
          joining_start (map net front) (net c.args.network)
          (All-map IsNetwork net front (λ k d l. g.met.N.Net.valid (get_or front k d)))
          (g.met.N.Net.valid c.args.network) joined c.requires.network order out;
    }

pub loop-front-preserved : goal.loop-front-preserved
loop-front-preserved g c =
    let net = g.N.Net.network in
    let xs = c.args.list.now in
    let n = c.loop-front.front in
    let t = c.index-list-front.result in
    let old : List Network = map net (take c.args.kept xs) in
    let within : n ≤ length xs = omega arith in
    let some : 0 < n = omega arith in
    let halves : AreHalves (net t) (net c.loop-front.next) =
    subst (λ z. AreHalves (net z) (net c.loop-front.next)) (sym c.index-list-front.is)
    (true_gives c.is_other_half.result c.is_other_half.ensures c.if-is_other_half.true) in
    let same : get_or xs (n - 1) c.index-list-front-in-loop-front.result ≡ t =
    at_place xs (n - 1) c.index-list-front-in-loop-front.result t (omega arith) ∙ sym c.index-list-front.is in
    let supernet : IsSupernetOf (net c.joined-next.result) (net t) =
    subst (λ z. IsSupernetOf (net c.joined-next.result) (net z)) same c.joined-next.ensures in
    record {
      at_most = omega arith;
      adding = adding_step old (net c.args.network) (map net (take (n - 1) xs)) (net t) (net c.loop-front.next)
          (net c.joined-next.result)
          (g.met.N.Net.valid t)
          (subst (λ z. IsAdding old (net c.args.network) z (net c.loop-front.next))
          (front_more net xs n t some within c.index-list-front.is) c.loop-front.invariant.adding)
          halves supernet;
      joining = λ joined order out.
          joining_step old (net c.args.network) (map net (take (n - 1) xs)) (net t) (net c.loop-front.next)
          (net c.joined-next.result)
          (g.met.N.Net.valid t)
          (subst (λ z. IsJoining old (net c.args.network) z (net c.loop-front.next))
          (front_more net xs n t some within c.index-list-front.is) (c.loop-front.invariant.joining joined order out))
          halves supernet;
    }

pub returns-clause-list : goal.returns-clause-list
returns-clause-list g c =
    let net = g.N.Net.network in
    let xs = c.args.list.now in
    let n = c.loop-front.front in
    let old : List Network = map net (take c.args.kept xs) in
    let below : n < length xs = omega arith in
    subst (IsListWith old (net c.args.network)) (sym (front_push net xs n c.loop-front.next below))
    (adding_end old (net c.args.network) (map net (take n xs)) (net c.loop-front.next) c.loop-front.invariant.adding)

pub returns-clause-stack : goal.returns-clause-stack
returns-clause-stack g c joined order out =
    let net = g.N.Net.network in
    let xs = c.args.list.now in
    let n = c.loop-front.front in
    let old : List Network = map net (take c.args.kept xs) in
    let below : n < length xs = omega arith in
    let within : n ≤ length xs = omega arith in
    let size : length (map net (take n xs)) ≡ n = front_length net xs n within in
    subst (IsStackWith old (net c.args.network)) (sym (front_push net xs n c.loop-front.next below))
    (joining_end old (net c.args.network) (map net (take n xs)) (net c.loop-front.next)
    (c.loop-front.invariant.joining joined order out)
    (λ d l h. elim c.loop-front-test.branch [
      | then-loop-front-test+else-is_other_half w ↦
          let some : 0 < n = omega arith in
          false_gives w.is_other_half.result w.is_other_half.ensures w.if-is_other_half.false
          (subst (λ z. AreHalves z (net c.loop-front.next))
          (front_last net xs n w.index-list-front.result some within w.index-list-front.is d
          ∙ ap net w.index-list-front.is) h)
      | else-loop-front-test w ↦ omega (arith, size, l, w.loop-front-test.false)
    ]))
