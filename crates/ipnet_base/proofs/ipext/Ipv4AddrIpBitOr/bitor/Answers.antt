use Rattle.std.proofs.Common.{arith}
use Rattle.ipnet_base.specs.Address.{IPv4}
use Rattle.ipnet_base.proofs.ArithmeticLaws.{or_is_bitwise}
use Rattle.ipnet_base.proofs.ipext.Ipv4AddrIpBitOr.bitor.Goals as goal

pub returns : goal.returns
returns c = or_is_bitwise IPv4 _ _ _ (cc) (omega arith) (omega arith)
