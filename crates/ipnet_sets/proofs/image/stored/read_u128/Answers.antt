use Rattle.std.proofs.Common.{arith}
use Rattle.ipnet_sets.proofs.ImageLaws.{sixteen}
use Rattle.ipnet_sets.proofs.image.stored.read_u128.Goals as goal

pub returns : goal.returns
returns c = omega (arith, sixteen c.args.bytes.now c.args.at)
