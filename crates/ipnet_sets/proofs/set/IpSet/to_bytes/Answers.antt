-- The bytes are appended one after the other: the header, the IPv6 boundaries and the IPv4 boundaries.
use Rattle.std.proofs.Common.{map, ap}
use Rattle.std.proofs.lemmas.List.{length-map}
use Rattle.ipnet_sets.proofs.ImageSetLaws.{image_made}
use Rattle.ipnet_sets.proofs.set.IpSet.to_bytes.Goals as goal

pub returns : goal.returns
returns c =
    let ipv4 = c.as_slice-ipv4.result.now in
    let ipv6 = c.as_slice-ipv6.result.now in
    image_made c.args.self.now (map (λ n. n) ipv4) (map (λ n. n) ipv6) _ _ c.new-bytes.result.items
    c.append_u64.new.bytes.items c.append_u64-2.new.bytes.items c.append_u64-3.new.bytes.items
    c.append_u64-4.new.bytes.items c.append_all.new.bytes.items c.append_all-2.new.bytes.items c.new-bytes.ensures.items
    c.in_ok-append_u64.ensures c.in_ok-append_u64-2.ensures c.in_ok-append_u64-3.ensures c.in_ok-append_u64-4.ensures
    c.in_ok-append_all.ensures c.in_ok-append_all-2.ensures (length-map ipv4 (λ n. n)) (length-map ipv6 (λ n. n))
    (ap (map (λ n. n)) c.as_slice-ipv4.ensures.value) (ap (map (λ n. n)) c.as_slice-ipv6.ensures.value)
