-- The numbers after the first range are boundaries again.
use Rattle.ipnet_base.specs.Address.{IPv4, IPv6}
use Rattle.ipnet_sets.proofs.SetRangeLaws.{boundaries_after}
use Rattle.ipnet_sets.proofs.set_ranges.IpSetRangesIterator.next.Goals as goal

pub invariant_of-self : goal.invariant_of-self
invariant_of-self c = record {
  ipv4_boundaries = boundaries_after (λ n. n) IPv4 c.args.self.now.ipv4.now c.after_first_range-self.result.now
      c.after_first_range-self.ensures c.args.self.now.ipv4_boundaries;
  ipv6_boundaries = c.args.self.now.ipv6_boundaries;
}

pub invariant_of-self-2 : goal.invariant_of-self-2
invariant_of-self-2 c = record {
  ipv4_boundaries = c.args.self.now.ipv4_boundaries;
  ipv6_boundaries = boundaries_after (λ n. n) IPv6 c.args.self.now.ipv6.now c.after_first_range-self-2.result.now
      c.after_first_range-self-2.ensures c.args.self.now.ipv6_boundaries;
}
