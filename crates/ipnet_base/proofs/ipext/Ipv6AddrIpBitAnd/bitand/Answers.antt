use Rattle.std.proofs.Common.{arith}
use Rattle.ipnet_base.specs.Address.{IPv6}
use Rattle.ipnet_base.proofs.ArithmeticLaws.{and_is_bitwise}
use Rattle.ipnet_base.proofs.ipext.Ipv6AddrIpBitAnd.bitand.Goals as goal

pub returns : goal.returns
returns c = and_is_bitwise IPv6 _ _ _ (cc) (omega arith)
