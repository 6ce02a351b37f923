-- The header, the rows and the index follow each other.
use Rattle.std.proofs.Common.{◌-◌, ◌<◌, length, get_or, sym, subst, subst₂, arith}
use Rattle.std.proofs.lemmas.List.{length-map}
use Rattle.ipnet_base.proofs.ListLaws.{contains_at}
use Rattle.ipnet.specs.NetworkOf.{ip_network, ipv6_network_of}
use Rattle.ipnet_routes.specs.Routes.{ip_networks}
use Rattle.ipnet_routes.specs.TableImages.{AreStarts}
use Rattle.ipnet_routes.proofs.TableRowLaws.{table_written}
use Rattle.ipnet_routes.proofs.routes.image.written.table_bytes.Goals as goal

pub append_rows-requires-clause-few : goal.append_rows-requires-clause-few
append_rows-requires-clause-few c k d l =
    let networks = ip_networks c.args.routes.now in
    let n = get_or networks k (ipv6_network_of 0 0) in
    let inside : k < length networks = omega (
      arith,
      l,
      c.requires.all,
      length-map c.args.routes.now (λ r. ip_network r.0),
    ) in
    let near = c.requires.links.nearest n (contains_at networks k (ipv6_network_of 0 0) inside) d l in
    omega (arith, near.within, l, c.requires.all, c.if-routes-ge4294967296.false)

pub returns : goal.returns
returns c =
    let list = c.args.routes.now in
    let m = c.ipv4_count-ipv4.result in
    let starts = c.as_slice.result.now in
    table_written list c.args.links.now starts c.args.magic m (length list - m) c.new-bytes.result.items
    c.append_u64.new.bytes.items c.append_u64-2.new.bytes.items c.append_u64-3.new.bytes.items
    c.append_u64-4.new.bytes.items c.append_rows.new.bytes.items c.append_u32s.new.bytes.items c.requires.table
    c.requires.links c.requires.all c.ipv4_count-ipv4.ensures.first (omega (arith, c.ipv4_count-ipv4.ensures.within))
    (subst (AreStarts (ip_networks list) _ _) (sym c.as_slice.ensures.value)
    (subst₂ (λ x y. AreStarts (ip_networks list) x y c.in_ok-starts.starts.items) c.new.ensures.ipv4
    c.new.ensures.ipv6 c.in_ok-starts.ensures))
    c.new-bytes.ensures.items c.in_ok-append_u64.ensures c.in_ok-append_u64-2.ensures c.in_ok-append_u64-3.ensures
    c.in_ok-append_u64-4.ensures (c.in_ok-append_rows.ensures m c.ipv4_count-ipv4.ensures.first)
    c.in_ok-append_u32s.ensures
