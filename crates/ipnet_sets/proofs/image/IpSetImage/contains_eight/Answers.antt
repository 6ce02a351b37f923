-- The stored numbers are the boundaries of the set, and each lane has the place of its number.
use Rattle.std.proofs.Common.{refl, ◌∙◌, ap₂, arith}
use Rattle.std.proofs.lemmas.List.{length-set}
use Rattle.ipnet_base.specs.Address.{IPv4}
use Rattle.ipnet_sets.specs.Images.{numbers_from}
use Rattle.ipnet_sets.proofs.StepLaws.{parities_more, member_by_place}
use Rattle.ipnet_sets.proofs.image.IpSetImage.contains_eight.Goals as goal

pub loop-lane-init : goal.loop-lane-init
loop-lane-init c = record { eight = refl; done = λ i less. absurd (omega (arith, less)) }

pub loop-lane-preserved : goal.loop-lane-preserved
loop-lane-preserved c = record {
  eight = length-set c.loop-lane.inside c.loop-lane.lane _ ∙ c.loop-lane.invariant.eight;
  done = parities_more c.boundaries_up_to_eight-turned.result c.loop-lane.inside c.loop-lane.lane _
      (omega (arith, c.loop-lane.invariant.eight, c.loop-lane-test.true)) refl c.loop-lane.invariant.done;
}

pub returns : goal.returns
returns c =
    λ s image lane less. member_by_place s
    (numbers_from 4 c.ipv4_place.result.count c.args.self.now.bytes.now c.ipv4_place.result.start) _ _ _
    (omega (arith, c.fits-numbers lane))
    (ap₂ (λ n at. numbers_from 4 n c.args.self.now.bytes.now at) c.ipv4_place.ensures.count c.ipv4_place.ensures.start
    ∙ image.boundaries IPv4) (λ are. c.boundaries_up_to_eight-turned.ensures are lane less)
    (c.loop-lane.invariant.done lane (omega (arith, less, c.loop-lane-test.false)))
