-- The lanes before the index have made the step, and the others have not.
use Rattle.std.proofs.Common.{◌≡◌, ◌-◌, length}
use Rattle.ipnet_sets.specs.Images.{numbers_from}
use Rattle.ipnet_sets.proofs.StepLaws.{AreBetween}
use Rattle.ipnet_sets.proofs.image.in_step.boundaries_up_to_eight.Given as goal

abbrev pub invariant-loop-lane : goal.invariant-loop-lane
invariant-loop-lane l = record {
  eight : length l.low ≡ 8;
  done : AreBetween (numbers_from 4 l.place.count l.bytes l.place.start) l.numbers l.low 0 l.lane (l.left - l.half);
  others : AreBetween (numbers_from 4 l.place.count l.bytes l.place.start) l.numbers l.low l.lane 8 l.left;
}

abbrev pub invariant-loop-left : goal.invariant-loop-left
invariant-loop-left l = record {
  eight : length l.low ≡ 8;
  between : AreBetween (numbers_from 4 l.place.count l.bytes l.place.start) l.numbers l.low 0 8 l.left;
}

abbrev pub decreases-loop-left : goal.decreases-loop-left
decreases-loop-left l = l.left
