-- The four numbers of a row follow each other.
use Rattle.std.proofs.Common.{◌∙◌}
use Rattle.ipnet.specs.NetworkOf.{ipv4_network}
use Rattle.ipnet_routes.proofs.TableRowLaws.{row_added}
use Rattle.ipnet_routes.proofs.routes.image.rows.append_ipv4_row.Goals as goal

pub returns : goal.returns
returns c =
    row_added (ipv4_network c.args.network.now) c.args.value c.args.link c.ipv4_number.result c.from.result
    c.args.bytes.now.items c.append_u32.new.bytes.items c.append_u32-2.new.bytes.items c.append_u32-3.new.bytes.items
    c.append_u32-4.new.bytes.items c.in_ok-append_u32.ensures c.in_ok-append_u32-2.ensures c.in_ok-append_u32-3.ensures
    c.in_ok-append_u32-4.ensures c.ipv4_number.ensures (c.from.ensures ∙ c.prefix_len.ensures)
