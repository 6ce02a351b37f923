-- Each step halves what is left, in each lane.
use Rattle.std.proofs.Common.{◌≡◌, ◌+◌, ◌-◌, ◌/◌, get_or, refl, sym, subst, ◌∙◌, arith}
use Rattle.std.proofs.lemmas.List.{get_or-replicate, length-set}
use Rattle.ipnet_sets.specs.Images.{numbers_from}
use Rattle.ipnet_sets.proofs.ImageLaws.{length-numbers_from, at_numbers}
use Rattle.ipnet_sets.proofs.StepLaws.{AreBetween, between_start, between_none, lane_stepped, lanes_left, lanes_end}
use Rattle.ipnet_sets.proofs.image.in_step.boundaries_up_to_eight.Goals as goal

pub loop-left-init : goal.loop-left-init
loop-left-init c =
    let place = c.args.place in
    record {
      eight = refl;
      between = between_start (numbers_from 4 place.count c.args.bytes.now place.start) c.args.numbers.now _ place.count
          (sym (length-numbers_from 4 place.count c.args.bytes.now place.start))
          (λ lane l. get_or-replicate 8 lane 0 0 l);
    }

pub loop-lane-init : goal.loop-lane-init
loop-lane-init c =
    let place = c.args.place in
    record {
      eight = c.loop-left.invariant.eight;
      done = between_none (numbers_from 4 place.count c.args.bytes.now place.start) c.args.numbers.now c.loop-left.low 0
          (c.loop-left.left - (c.loop-left.left - c.loop-left.left / 2));
      others = c.loop-left.invariant.between;
    }

pub step-requires-clause-within : goal.step-requires-clause-within
step-requires-clause-within c =
    let place = c.args.place in
    let lane = c.loop-lane.lane in
    let within = c.loop-lane.invariant.others.within lane (omega arith) (omega (arith, c.loop-lane-test.true)) in
    omega (arith, within, length-numbers_from 4 place.count c.args.bytes.now place.start)

pub loop-lane-preserved : goal.loop-lane-preserved
loop-lane-preserved c =
    let place = c.args.place in
    let boundaries = numbers_from 4 place.count c.args.bytes.now place.start in
    let low = c.loop-lane.low in
    let lane = c.loop-lane.lane in
    let left = c.loop-left.left in
    let half = left - left / 2 in
    let same = c.loop-lane.invariant in
    let eight = c.loop-lane-test.true in
    let some = c.loop-left-test.true in
    let room = same.eight in
    let within = same.others.within lane (omega arith) (omega (arith, eight)) in
    record {
      eight = length-set low lane c.step.result ∙ same.eight;
      done = lane_stepped boundaries c.args.numbers.now low lane left half c.step.result _ (omega (arith, room, eight))
          (omega (arith, eight)) (omega (arith, some)) (omega arith) (omega arith)
          (λ d. at_numbers 4 place.count c.args.bytes.now place.start (get_or low lane 0 + half - 1) d
          (omega (arith, some, within, length-numbers_from 4 place.count c.args.bytes.now place.start)))
          c.step.ensures same.done same.others;
      others = lanes_left boundaries c.args.numbers.now low lane left c.step.result same.others;
    }

pub loop-left-preserved : goal.loop-left-preserved
loop-left-preserved c =
    let place = c.args.place in
    let boundaries = numbers_from 4 place.count c.args.bytes.now place.start in
    let end : c.loop-lane.lane ≡ 8 = omega (arith, c.loop-lane-test.false, c.loop-lane.auto.lane-end) in
    record {
      eight = c.loop-lane.invariant.eight;
      between = subst (λ z. AreBetween boundaries c.args.numbers.now c.loop-lane.low 0 z
          (c.loop-left.left - (c.loop-left.left - c.loop-left.left / 2))) end c.loop-lane.invariant.done;
    }

pub returns : goal.returns
returns c =
    let place = c.args.place in
    λ are lane l. lanes_end (numbers_from 4 place.count c.args.bytes.now place.start) c.args.numbers.now c.loop-left.low
    c.loop-left.left lane (omega (arith, c.loop-left-test.false)) l are c.loop-left.invariant.between
