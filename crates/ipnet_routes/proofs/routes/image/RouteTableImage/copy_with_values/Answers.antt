-- The copy has the bytes of the image, over which the values are written.
use Rattle.std.proofs.Common.{◌≤◌, ◌+◌, length, ap, sym, subst, subst₂, arith}
use Rattle.ipnet_base.specs.Address.{IPv4}
use Rattle.ipnet_routes.specs.TableImages.{stated_routes, route_count, value_place, AreValuesWritten}
use Rattle.ipnet_routes.proofs.TableValueLaws.{value_within, other_values}
use Rattle.ipnet_routes.proofs.routes.image.RouteTableImage.copy_with_values.Goals as goal

pub write_values-requires : goal.write_values-requires
write_values-requires c i l =
    let bytes = c.args.self.now.table.bytes.now in
    subst (λ m. value_place m i + 4 ≤ length c.copy_from_slice.new.self) (sym c.ipv4_len.ensures)
    (omega (
      arith,
      value_within (stated_routes bytes IPv4) i (route_count bytes) (omega (arith, l, c.requires.as_many)),
      c.args.self.now.header.stated,
      ap length c.copy_from_slice.ensures.after,
    ))

pub returns : goal.returns
returns c =
    let bytes = c.args.self.now.table.bytes.now in
    let values = c.args.values.now in
    other_values bytes values c.write_values.new.bytes
    (subst₂ (λ m old. AreValuesWritten m (length values) values old c.write_values.new.bytes) c.ipv4_len.ensures
    c.copy_from_slice.ensures.after c.write_values.ensures)
    c.requires.as_many
