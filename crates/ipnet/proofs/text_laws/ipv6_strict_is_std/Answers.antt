use Rattle.ipnet.proofs.StdTexts.{ipv6_std}
use Rattle.ipnet.proofs.text_laws.ipv6_strict_is_std.Goals as goal

pub returns : goal.returns
returns c = ipv6_std
