-- The image is of the table of the networks that the lines write.
use Rattle.std.proofs.Common.{map, sym, subst}
use Rattle.ipnet.specs.NetworkOf.{ip_network}
use Rattle.ipnet_c.specs.TableReplies.{IsTableWith}
use Rattle.ipnet_c.proofs.TableReplies.{table_compiled}
use Rattle.ipnet_c.proofs.tables.ipnet_table_from_text.Goals as goal

pub returns : goal.returns
returns c =
    let (same, utf8) = c.in-Ok.ensures.cases in
    let made = c.write_to_buffer in
    let networks = c.in-Ok-read_networks.networks.items in
    table_compiled c.args.text.now c.args.values.now c.as_slice-2.result.now c.args.buffer.now made.new.buffer
    c.args.count.now made.new.count made.result utf8
    (record {
      networks = map ip_network networks;
      written = rw same at c.in-Ok-read_networks.ensures.networks;
      made = subst (IsTableWith (map ip_network networks) c.args.values.now) (sym c.as_slice-2.ensures.value)
          (subst (λ z. IsTableWith (map ip_network z) c.args.values.now c.in-Ok-table_image.image.items)
          c.as_slice.ensures.value c.in-Ok-table_image.ensures);
    })
    made.ensures.known made.ensures.ok made.ensures.too_short
