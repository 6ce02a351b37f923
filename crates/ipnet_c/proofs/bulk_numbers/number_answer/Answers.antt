-- The address has this number.
use Rattle.ipnet_c.proofs.MappedLaws.{number_answered}
use Rattle.ipnet_c.proofs.bulk_numbers.number_answer.Goals as goal

pub returns : goal.returns
returns c =
    number_answered c.args.image.now.bytes.now c.from_bits.result c.args.number c.contains.result c.from.result
    c.ranges.number.fits c.from_bits.ensures c.contains.ensures c.from.ensures
