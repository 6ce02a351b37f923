use Rattle.ipnet.proofs.StdTexts.{ipv4_std}
use Rattle.ipnet.proofs.text_laws.ipv4_strict_is_std.Goals as goal

pub returns : goal.returns
returns c = ipv4_std
