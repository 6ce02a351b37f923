-- The range ends before it starts, so it has no address, and no network lies in it.
use Rattle.std.proofs.Common.{◌≡◌, [], arith}
use Rattle.ipnet_base.specs.Address.{IPv4, IsBetween}
use Rattle.ipnet_base.proofs.AddressLaws.{bits_from_number}
use Rattle.ipnet_base.proofs.UniqueLaws.{AreMaximalBlocks-nil, AreMaximalBlocks-unique}
use Rattle.std.specs.Net.Addr.{ipv4_bits}
use Rattle.ipnet.specs.SubnetsLeft.{ipv4_subnets_left}
use Rattle.ipnet_sets.proofs.set_networks.empty_walk.Goals as goal

pub returns : goal.returns
returns c =
    let start = ipv4_bits c.from_bits-last.result in
    let end = ipv4_bits c.from_bits.result in
    let greatest : start ≡ 4294967295 =
    bits_from_number c.from_bits-last.result 4294967295 (omega arith) c.from_bits-last.ensures in
    let least : end ≡ 0 = bits_from_number c.from_bits.result 0 (omega arith) c.from_bits.ensures in
    AreMaximalBlocks-unique (IsBetween IPv4 start end) 0 (ipv4_subnets_left c.new.result) [] c.new.ensures.walk.blocks
    (AreMaximalBlocks-nil (IsBetween IPv4 start end) 0
    (λ x i. omega (arith, i.from_start, i.to_end, greatest, least)))
