-- The network is made of the numbers that were read.
use Rattle.std.proofs.Common.{◌≡◌, ◌+◌, refl, sym, ap, ◌∙◌, subst, arith}
use Rattle.ipnet_base.proofs.AddressLaws.{bits_from_number}
use Rattle.ipnet_base.proofs.NetworkLaws.{same_network}
use Rattle.ipnet_sets.specs.Images.{number_from}
use Rattle.ipnet_routes.specs.TableImages.{IsRowAt}
use Rattle.ipnet_routes.proofs.TableRowLaws.{ipv4_row_says}
use Rattle.ipnet_routes.proofs.routes.image.rows.ipv4_row.Goals as goal

pub returns-clause-read : goal.returns-clause-read
returns-clause-read c n value link family valid h =
    let says = ipv4_row_says c.args.bytes.now c.args.at n value link family h in
    record {
      route = _;
      is = refl;
      network_is = c.new_assert.ensures
          ∙ same_network _ n (sym family)
          (bits_from_number c.from_bits-address.result c.read_u32.result (omega arith) c.from_bits-address.ensures
          ∙ c.read_u32.ensures ∙ says.0)
          (c.read_u32-prefix_len.ensures ∙ says.1);
      value_is = c.read_u32-2.ensures ∙ says.2;
      link_is = c.read_u32-3.ensures ∙ says.3;
    }

pub returns-clause-stored : goal.returns-clause-stored
returns-clause-stored c =
    let eight : c.args.at + 4 + 4 ≡ c.args.at + 8 = omega arith in
    let twelve : c.args.at + 4 + 8 ≡ c.args.at + 12 = omega arith in
    let network = c.new_assert.ensures in (
      refl,
      subst (λ n. IsRowAt c.args.bytes.now c.args.at n c.read_u32-2.result c.read_u32-3.result) (sym network) (record {
        number = sym (bits_from_number c.from_bits-address.result c.read_u32.result (omega arith)
            c.from_bits-address.ensures ∙ c.read_u32.ensures);
        prefix_len = sym c.read_u32-prefix_len.ensures;
        value_is = ap (number_from 4 c.args.bytes.now) eight ∙ sym c.read_u32-2.ensures;
        link_is = ap (number_from 4 c.args.bytes.now) twelve ∙ sym c.read_u32-3.ensures;
      }),
    )
