use Rattle.std.proofs.Common.{arith}
use Rattle.ipnet_sets.proofs.ImageLaws.{four}
use Rattle.ipnet_sets.proofs.image.stored.read_u32.Goals as goal

pub returns : goal.returns
returns c = omega (arith, four c.args.bytes.now c.args.at)
