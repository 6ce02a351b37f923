-- The networks before ::/0 are the networks of IPv4.
use Rattle.std.proofs.Common.{refl, ◌∙◌, subst, arith}
use Rattle.ipnet_base.proofs.AddressLaws.{ipv6_bits_from_number}
use Rattle.ipnet_base.proofs.NetworkLaws.{same_network}
use Rattle.ipnet.specs.NetworkOf.{ipv6_network_of}
use Rattle.ipnet_routes.specs.Routes.{ip_networks}
use Rattle.ipnet_routes.specs.RouteSteps.{IsPlaceOf}
use Rattle.ipnet_routes.proofs.TableRowLaws.{first_ipv4}
use Rattle.ipnet_routes.proofs.routes.image.written.ipv4_count.Goals as goal

pub returns-clause-first : goal.returns-clause-first
returns-clause-first c =
    let start = c.new_assert.ensures
    ∙ same_network _ (ipv6_network_of 0 0) refl
    (ipv6_bits_from_number c.from_bits.result 0 (omega arith) c.from_bits.ensures) refl in
    first_ipv4 (ip_networks c.args.routes.now) c.place_of.result
    (subst (λ n. IsPlaceOf (ip_networks c.args.routes.now) n c.place_of.result) start c.place_of.ensures)
