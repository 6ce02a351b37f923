-- In one family, by the call on that family's type; a block of the other family lies in none.
use Rattle.ipnet_base.specs.Network.{IsSubnetOf}
use Rattle.ipnet.specs.NetworkOf.{ip_network}
use Rattle.ipnet.specs.declared.net.IpNet.TheVariants.{V4, V6}
use Rattle.ipnet_base.proofs.NestingLaws.{no_subnet_of_other_family}
use Rattle.ipnet_base.proofs.ResultLaws.{never}
use Rattle.ipnet.proofs.net.IpNetContainsRefIpNet.contains.Goals as goal

pub returns-in-V4-V4 : goal.returns-in-V4-V4
returns-in-V4-V4 c = rw (c.in-V4-V4.is-0, c.in-V4-V4.is-1) c.contains.ensures

pub returns-in-V6-V6 : goal.returns-in-V6-V6
returns-in-V6-V6 c = rw (c.in-V6-V6.is-0, c.in-V6-V6.is-1) c.contains-in-V6-V6.ensures

pub returns-in_default : goal.returns-in_default
returns-in_default c =
    let k = V4 c.in_default.field-0-0 in
    let n = V6 c.in_default.field-0-1 in
    rw (c.in_default.is-0, c.in_default.is-1)
    (never (IsSubnetOf (ip_network n) (ip_network k))
    (no_subnet_of_other_family (ip_network n) (ip_network k) (λ same. cc)))

pub returns-in_default-2 : goal.returns-in_default-2
returns-in_default-2 c =
    let k = V6 c.in_default.field-0-0 in
    let n = V4 c.in_default.field-0-1 in
    rw (c.in_default.is-0, c.in_default.is-1)
    (never (IsSubnetOf (ip_network n) (ip_network k))
    (no_subnet_of_other_family (ip_network n) (ip_network k) (λ same. cc)))
