use Rattle.std.proofs.Common.{◌≡◌, ◌∙◌, ◌<◌, ◌^◌, ap, subst, sym, arith}
use Rattle.ipnet_base.specs.Address.{IPv4, IPv6, address_at, width}
use Rattle.ipnet_base.proofs.AddressLaws.{bits_from_number, ipv6_bits_from_number}
use Rattle.ipnet.specs.NetworkOf.{ip_network}
use Rattle.ipnet_info.proofs.purposes.first_address.Goals as goal

pub returns-in-V4 : goal.returns-in-V4
returns-in-V4 c =
    let family : (ip_network c.args.network.now).family ≡ IPv4 = ap (λ n. (ip_network n).family) c.in-V4.is in
    let small : c.args.row.now.0 < 2 ^ 32 =
    subst (λ f. c.args.row.now.0 < 2 ^ width f) family c.requires.address_fits in
    ap (address_at IPv4) (bits_from_number c.from_bits.result c.args.row.now.0 small c.from_bits.ensures)
    ∙ ap (λ f. address_at f c.args.row.now.0) (sym family)

pub returns-in-V6 : goal.returns-in-V6
returns-in-V6 c =
    let family : (ip_network c.args.network.now).family ≡ IPv6 = ap (λ n. (ip_network n).family) c.in-V6.is in
    let small : c.args.row.now.0 < 2 ^ 128 =
    subst (λ f. c.args.row.now.0 < 2 ^ width f) family c.requires.address_fits in
    ap (address_at IPv6)
    (ipv6_bits_from_number c.from_bits-in-V6.result c.args.row.now.0 small c.from_bits-in-V6.ensures)
    ∙ ap (λ f. address_at f c.args.row.now.0) (sym family)
