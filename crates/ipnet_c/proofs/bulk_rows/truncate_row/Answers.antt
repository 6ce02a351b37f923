-- The row becomes the row of the first address of the network that was made of its address.
use Rattle.std.proofs.Common.{◌∙◌, subst}
use Rattle.ipnet_base.specs.Address.{ip_address}
use Rattle.ipnet.specs.NetworkOf.{ip_network}
use Rattle.ipnet_c.specs.Rows.{IsRowOf, row_bytes}
use Rattle.ipnet_c.proofs.MappedLaws.{row_truncated}
use Rattle.ipnet_c.proofs.RowLaws.{row_part}
use Rattle.ipnet_c.proofs.bulk_rows.truncate_row.Goals as goal

pub returns-clause-truncated : goal.returns-clause-truncated
returns-clause-truncated c =
    let lengths = c.args.lengths.now in
    let octets = c.args.octets.now in
    let index = c.args.index in
    row_truncated lengths.ipv4 lengths.ipv6 c.args.family (row_bytes octets index)
    (row_bytes c.write_octets.new.octets index) (ip_address c.in-Some.ip) (ip_address c.network-first.result)
    (ip_network c.new_assert.result) c.length_for.result
    (subst (λ z. IsRowOf c.args.family z (ip_address c.in-Some.ip)) (row_part octets index) c.in-Some.ensures.some)
    c.network-first.ensures c.new_assert.ensures c.length_for.ensures.value
    (c.write_octets.ensures.written ∙ c.padded_octets.ensures)
