-- In one family, the first network lies before the second if its last number is below the number of the second.
use Rattle.std.proofs.Common.{◌↔◌, IsTrue, ltb, refl, sym, subst₂}
use Rattle.ipnet_base.specs.Stack.{LiesBefore}
use Rattle.ipnet.specs.NetworkOf.{ipv4_network, ipv6_network, ip_network}
use Rattle.ipnet.proofs.JoinedLaws.{lies_by_last}
use Rattle.ipnet.proofs.aggregate.lies_before.Goals as goal

pub returns-in-V4-V4 : goal.returns-in-V4-V4
returns-in-V4-V4 c =
    subst₂ (λ n k. IsTrue (ltb c.last_number.result c.number.result) ↔ LiesBefore (ip_network n) (ip_network k))
    (sym c.in-V4-V4.is-0) (sym c.in-V4-V4.is-1)
    (lies_by_last (ipv4_network c.in-V4-V4.first)
    (ipv4_network c.in-V4-V4.second) c.last_number.result c.number.result c.last_number.ensures c.number.ensures
    refl)

pub returns-in-V6-V6 : goal.returns-in-V6-V6
returns-in-V6-V6 c =
    subst₂ (λ n k. IsTrue (ltb c.last_number-in-V6-V6.result c.number-in-V6-V6.result)
    ↔ LiesBefore (ip_network n) (ip_network k)) (sym c.in-V6-V6.is-0) (sym c.in-V6-V6.is-1)
    (lies_by_last (ipv6_network c.in-V6-V6.first)
    (ipv6_network c.in-V6-V6.second) c.last_number-in-V6-V6.result c.number-in-V6-V6.result
    c.last_number-in-V6-V6.ensures c.number-in-V6-V6.ensures refl)
