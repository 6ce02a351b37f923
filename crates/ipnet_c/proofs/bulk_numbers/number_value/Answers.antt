-- The longest match was asked for the address with this number.
use Rattle.std.proofs.Common.{◌≡◌, true, false, refl, subst}
use Rattle.ipnet.specs.Address.{ipv4_address}
use Rattle.ipnet.specs.NetworkOf.{ip_network}
use Rattle.ipnet_c.specs.TableReplies.{IsValueAt}
use Rattle.ipnet_c.proofs.MappedLaws.{number_address}
use Rattle.ipnet_c.proofs.TableReplies.{value_found, value_missing}
use Rattle.ipnet_c.proofs.bulk_numbers.number_value.Goals as goal

pub returns-in-Some : goal.returns-in-Some
returns-in-Some c =
    let table = c.args.image.now.table.bytes.now in
    let route = c.in-Some.route in
    let found = c.in-Some.ensures in
    subst (λ x. IsValueAt table x c.args.missing route.1)
    (number_address c.from_bits.result c.args.number c.ranges.number.fits c.from_bits.ensures)
    (value_found table (ipv4_address c.from_bits.result) (ip_network route.0) c.args.missing route.1 found.stored
    found.holds found.some (λ t image out. let apart : true ≡ false = (found.none t image).1 out in absurd (cc)))

pub returns-in-None : goal.returns-in-None
returns-in-None c =
    let table = c.args.image.now.table.bytes.now in
    subst (λ x. IsValueAt table x c.args.missing c.args.missing)
    (number_address c.from_bits.result c.args.number c.ranges.number.fits c.from_bits.ensures)
    (value_missing table (ipv4_address c.from_bits.result) c.args.missing
    (λ t image. (c.in-None.ensures.none t image).0 refl))
