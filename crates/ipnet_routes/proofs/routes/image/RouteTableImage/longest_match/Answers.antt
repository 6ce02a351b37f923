-- A network holds the address if and only if it contains the network that has only this address.
use Rattle.std.proofs.Common.{◌≡◌, IsNone, sym, subst}
use Rattle.std.proofs.lemmas.Option.{IfSome_then}
use Rattle.ipnet_base.specs.Address.{Address, ip_address}
use Rattle.ipnet_base.specs.Network.{Network, InBlock, IsSubnetOf}
use Rattle.ipnet.specs.NetworkOf.{ip_network}
use Rattle.ipnet_routes.proofs.RouteLaws.{host, in_from_host, none_holds, longest_holds}
use Rattle.ipnet_routes.proofs.routes.image.RouteTableImage.longest_match.Goals as goal

pub returns-in-V4-clause-none : goal.returns-in-V4-clause-none
returns-in-V4-clause-none c t h =
    none_holds t (ip_address c.args.ip.now) (ip_network c.from.result) (IsNone c.find_covering.result)
    (subst (λ ip. ip_network c.from.result ≡ host (ip_address ip)) (sym c.in-V4.is) c.from.ensures)
    (c.find_covering.ensures.none t h)

pub returns-in-V4-clause-some : goal.returns-in-V4-clause-some
returns-in-V4-clause-some c t h =
    IfSome_then c.find_covering.result (c.find_covering.ensures.some t h)
    (λ route. longest_holds t (ip_address c.args.ip.now) (ip_network c.from.result)
    (ip_network route.0, route.1)
    (subst (λ ip. ip_network c.from.result ≡ host (ip_address ip)) (sym c.in-V4.is) c.from.ensures))

pub returns-in-V6-clause-none : goal.returns-in-V6-clause-none
returns-in-V6-clause-none c t h =
    none_holds t (ip_address c.args.ip.now) (ip_network c.from-in-V6.result) (IsNone c.covering.result)
    (subst (λ ip. ip_network c.from-in-V6.result ≡ host (ip_address ip)) (sym c.in-V6.is) c.from-in-V6.ensures)
    (c.covering.ensures.none t h)

pub returns-in-V6-clause-some : goal.returns-in-V6-clause-some
returns-in-V6-clause-some c t h =
    IfSome_then c.covering.result (c.covering.ensures.some t h)
    (λ route. longest_holds t (ip_address c.args.ip.now) (ip_network c.from-in-V6.result)
    (ip_network route.0, route.1)
    (subst (λ ip. ip_network c.from-in-V6.result ≡ host (ip_address ip)) (sym c.in-V6.is) c.from-in-V6.ensures))

-- a network that contains the network of an address contains the address
holds_address : (x : Address) (n k : Network) → n ≡ host x → IsSubnetOf n k → InBlock k x
holds_address x n k is sub = in_from_host k x (subst (λ m. IsSubnetOf m k) is sub)

pub returns-in-V4-clause-holds : goal.returns-in-V4-clause-holds
returns-in-V4-clause-holds c =
    IfSome_then c.find_covering.result c.find_covering.ensures.holds
    (λ route. holds_address (ip_address c.args.ip.now) (ip_network c.from.result) (ip_network route.0)
    (subst (λ ip. ip_network c.from.result ≡ host (ip_address ip)) (sym c.in-V4.is) c.from.ensures))

pub returns-in-V6-clause-holds : goal.returns-in-V6-clause-holds
returns-in-V6-clause-holds c =
    IfSome_then c.covering.result c.covering.ensures.holds
    (λ route. holds_address (ip_address c.args.ip.now) (ip_network c.from-in-V6.result) (ip_network route.0)
    (subst (λ ip. ip_network c.from-in-V6.result ≡ host (ip_address ip)) (sym c.in-V6.is) c.from-in-V6.ensures))
