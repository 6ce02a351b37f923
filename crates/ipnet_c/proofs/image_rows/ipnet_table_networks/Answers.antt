-- Each turn writes the network of one route more.
use Rattle.std.proofs.Common.{◌+◌, ◌<◌, option_map, refl, sym, subst, arith, slice_set}
use Rattle.ipnet_base.specs.Address.{ip_address}
use Rattle.ipnet_routes.specs.TableImages.{route_count}
use Rattle.ipnet_c.specs.Rows.{row_bytes, written_family}
use Rattle.ipnet_c.specs.ImageRows.{network_rows}
use Rattle.ipnet_c.proofs.ImageRowReplies.{AreNetworksTo, network_row, one_network}
use Rattle.ipnet_c.proofs.image_rows.ipnet_table_networks.Goals as goal

pub loop-index-preserved : goal.loop-index-preserved
loop-index-preserved c =
    let table = c.in-Ok.image.table.bytes.now in
    let l = c.loop-index in
    let new = c.write_row.new.octets in
    let row = c.row_of-address.result.0 in
    let len = c.row_of-address.result.1 in
    let old = network_rows c.args.families.now c.args.octets.now c.args.lengths.now in
    let family = written_family (option_map ip_address row) in
    let within : c.args.start + l.index < route_count table =
    omega (
      arith,
      c.loop-index-test.true,
      c.loop-index.auto.families,
      c.has_routes.ensures.0 (c.if-not-has_routes.false),
    ) in
    let found = c.route.ensures in
    subst (λ z. AreNetworksTo table c.args.start (l.index + 1) old
    (network_rows z new (slice_set l.lengths l.index len))) (sym c.write_row.ensures.family)
    (one_network table c.args.start l.index old l.families l.octets l.lengths new family len l.invariant
    (omega (arith, c.loop-index-test.true)) (omega (arith, c.loop-index-test.true)) c.write_row.ensures.as_many
    c.write_row.ensures.others
    (network_row table (c.args.start + l.index) c.route.result row family (row_bytes new l.index) len within
    (record { of_table = found.table; stored = found.stored; read = found.read }) c.row_of-address.ensures.address
    c.row_of-address.ensures.len refl c.write_row.ensures.written))
