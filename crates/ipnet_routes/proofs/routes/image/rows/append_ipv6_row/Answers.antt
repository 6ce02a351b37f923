-- The four numbers of a row follow each other.
use Rattle.std.proofs.Common.{◌∙◌}
use Rattle.ipnet.specs.NetworkOf.{ipv6_network}
use Rattle.ipnet_routes.proofs.TableRowLaws.{row_added}
use Rattle.ipnet_routes.proofs.routes.image.rows.append_ipv6_row.Goals as goal

pub returns : goal.returns
returns c =
    row_added (ipv6_network c.args.network.now) c.args.value c.args.link c.ipv6_number.result c.from.result
    c.args.bytes.now.items c.append_u128.new.bytes.items c.append_u32.new.bytes.items c.append_u32-2.new.bytes.items
    c.append_u64.new.bytes.items c.in_ok-append_u128.ensures c.in_ok-append_u32.ensures c.in_ok-append_u32-2.ensures
    c.in_ok-append_u64.ensures c.ipv6_number.ensures (c.from.ensures ∙ c.prefix_len.ensures)
