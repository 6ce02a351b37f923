-- A network has no host bit if and only if its number is the number of its truncation.
use Rattle.std.proofs.Common.{◌↔◌, IsTrue, eqb, sym, subst}
use Rattle.ipnet_base.specs.Network.{IsTruncated}
use Rattle.ipnet.specs.NetworkOf.{ipv4_network, ipv6_network, ip_network}
use Rattle.ipnet.proofs.JoinedLaws.{truncated_by_number}
use Rattle.ipnet.proofs.aggregate.is_truncated.Goals as goal

pub returns-in-V4 : goal.returns-in-V4
returns-in-V4 c =
    subst (λ n. IsTrue (eqb c.number.result c.number-in-V4.result) ↔ IsTruncated (ip_network n)) (sym c.in-V4.is)
    (truncated_by_number (ipv4_network c.in-V4.network)
    (ipv4_network c.truncated.result) c.number.result c.number-in-V4.result
    c.number.ensures c.truncated.ensures c.number-in-V4.ensures)

pub returns-in-V6 : goal.returns-in-V6
returns-in-V6 c =
    subst (λ n. IsTrue (eqb c.number-in-V6.result c.number-in-V6-2.result) ↔ IsTruncated (ip_network n))
    (sym c.in-V6.is)
    (truncated_by_number (ipv6_network c.in-V6.network)
    (ipv6_network c.truncated-in-V6.result) c.number-in-V6.result c.number-in-V6-2.result
    c.number-in-V6.ensures c.truncated-in-V6.ensures c.number-in-V6-2.ensures)
