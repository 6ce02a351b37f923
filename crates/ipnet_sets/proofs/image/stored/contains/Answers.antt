use Rattle.std.proofs.Common.{sym}
use Rattle.ipnet_sets.specs.Images.{numbers_from}
use Rattle.ipnet_sets.proofs.SplitLaws.{inside_from_split}
use Rattle.ipnet_sets.proofs.image.stored.contains.Goals as goal

pub returns : goal.returns
returns g c =
    λ h. sym (inside_from_split
    (numbers_from g.T.StoredNumber.width c.args.place.count c.args.bytes.now c.args.place.start)
    (g.T.Number.number c.args.number) c.boundaries_up_to.result (c.boundaries_up_to.ensures.split h))
