use Rattle.std.proofs.Common.{arith}
use Rattle.ipnet_sets.proofs.ImageLaws.{eight}
use Rattle.ipnet_sets.proofs.image.stored.read_u64.Goals as goal

pub returns : goal.returns
returns c = omega (arith, eight c.args.bytes.now c.args.at)
