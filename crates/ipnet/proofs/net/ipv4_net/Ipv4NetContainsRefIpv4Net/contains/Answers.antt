-- A block lies in another if and only if its prefix is at least as long and the other contains its own address.
use Rattle.std.proofs.Common.{subst, arith, IsTrue, ◌↔◌}
use Rattle.ipnet_base.specs.Address.{IPv4, address_at}
use Rattle.ipnet_base.specs.Network.{InBlock, IsSubnetOf}
use Rattle.ipnet_base.proofs.BlockLaws.{own, own_in}
use Rattle.ipnet_base.proofs.NestingLaws.{longer_from_subnet, subnet_from_own}
use Rattle.ipnet_base.proofs.ResultLaws.{never}
use Rattle.ipnet.specs.NetworkOf.{ipv4_network}
use Rattle.ipnet.specs.NetLaws.{ipv4_valid}
use Rattle.ipnet.proofs.net.ipv4_net.Ipv4NetContainsRefIpv4Net.contains.Goals as goal

pub returns-then-leading_bits : goal.returns-then-leading_bits
returns-then-leading_bits c =
    let n = c.args.other.now in
    let k = c.args.self.now in
    never (IsSubnetOf (ipv4_network n) (ipv4_network k))
    (λ s. omega (arith, longer_from_subnet (ipv4_network n) (ipv4_network k) (ipv4_valid n) (ipv4_valid k) s))

pub returns : goal.returns
returns c =
    let n = c.args.other.now in
    let k = c.args.self.now in
    let answer : IsTrue c.has_number.result ↔ InBlock (ipv4_network k) (own (ipv4_network n)) =
    subst (λ m. IsTrue c.has_number.result ↔ InBlock (ipv4_network k) (address_at IPv4 m)) c.number.ensures
    c.has_number.ensures in (
      λ t. subnet_from_own (ipv4_network n) (ipv4_network k) (omega arith) (answer.0 t),
      λ s. answer.1 (s (own (ipv4_network n)) (own_in (ipv4_network n))),
    )
