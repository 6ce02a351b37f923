-- The numbers before the last range are boundaries again.
use Rattle.ipnet_base.specs.Address.{IPv4, IPv6}
use Rattle.ipnet_sets.proofs.RangeEndLaws.{boundaries_before}
use Rattle.ipnet_sets.proofs.set_ranges.IpSetRangesDoubleEndedIterator.next_back.Goals as goal

pub invariant_of-self : goal.invariant_of-self
invariant_of-self c = record {
  ipv4_boundaries = c.args.self.now.ipv4_boundaries;
  ipv6_boundaries = boundaries_before (λ n. n) IPv6 c.args.self.now.ipv6.now c.before_last_range-self.result.now
      c.before_last_range-self.ensures c.args.self.now.ipv6_boundaries;
}

pub invariant_of-self-2 : goal.invariant_of-self-2
invariant_of-self-2 c = record {
  ipv4_boundaries = boundaries_before (λ n. n) IPv4 c.args.self.now.ipv4.now c.before_last_range-self-2.result.now
      c.before_last_range-self-2.ensures c.args.self.now.ipv4_boundaries;
  ipv6_boundaries = c.args.self.now.ipv6_boundaries;
}
