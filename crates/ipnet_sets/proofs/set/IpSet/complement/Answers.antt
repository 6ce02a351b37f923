use Rattle.std.proofs.Common.{arith}
use Rattle.ipnet_sets.proofs.RangeCountLaws.{one_more_range, one_more_boundary}
use Rattle.ipnet_sets.proofs.set.IpSet.complement.Goals as goal

pub returns-clause-ranges : goal.returns-clause-ranges
returns-clause-ranges c = one_more_range _ c.args.self.now
    (one_more_boundary c.args.self.now c.in_ok-ipv4.ipv4.items c.in_ok-ipv6.ipv6.items
    c.as_slice.result.now c.as_slice-2.result.now c.as_slice.ensures.value c.as_slice-2.ensures.value
    (omega (arith, c.in_ok-ipv4.ensures.no_more)) (omega (arith, c.in_ok-ipv6.ensures.no_more)))
