-- The largest network and what the stored ends leave are the walk before, by `left_advanced`; a range without
-- addresses has none (`nothing_left`).
use Rattle.std.proofs.Common.{rules, ◌∙◌, sym, subst, ap, length}
use Rattle.ipnet_base.specs.Subnets.{IsAdvancedPast}
use Rattle.ipnet.specs.NetworkOf.{ipv6_network}
use Rattle.ipnet.specs.SubnetsLeft.{ipv6_subnet_range, ipv6_subnets_left}
use Rattle.ipnet.proofs.SubnetsLaws.{ipv6_walk, ipv6_subnets_left-are_blocks, nothing_left}
use Rattle.ipnet.proofs.SubnetsLaws.{left_advanced}
use Rattle.ipnet_base.proofs.BlockLaws.{last_from_greatest}
use Rattle.ipnet.proofs.subnets.ipv6_subnets.Ipv6SubnetsIterator.next.Goals as goal

pub returns-then-self-clause-steps : goal.returns-then-self-clause-steps
returns-then-self-clause-steps c =
    let nothing =
    nothing_left (ipv6_subnet_range c.args.self.now) (ipv6_subnets_left c.args.self.now)
    (ipv6_subnets_left-are_blocks c.args.self.now) c.if-self.true in
    (nothing, nothing)

pub returns-then-self-clause-goes : goal.returns-then-self-clause-goes
returns-then-self-clause-goes c = record {
  progress = search rules;
  largest = search rules;
  advanced = search rules;
  walk = ipv6_walk c.args.self.now;
  rest = ipv6_walk c.args.self.now;
  over = search rules;
  unchanged = search rules;
}

pub returns-clause-steps : goal.returns-clause-steps
returns-clause-steps c =
    left_advanced (ipv6_subnet_range c.args.self.now) (ipv6_subnet_range c.advance_past.new.self)
    (ipv6_network c.largest_subnet_at-network.result) (ipv6_subnets_left c.args.self.now)
    (ipv6_subnets_left c.advance_past.new.self)
    c.args.self.now.end_fits c.largest_subnet_at-network.ensures
    (subst (λ last. IsAdvancedPast last (ipv6_subnet_range c.args.self.now) (ipv6_subnet_range c.advance_past.new.self))
    c.last_number.ensures c.advance_past.ensures)
    (ipv6_subnets_left-are_blocks c.args.self.now) (ipv6_subnets_left-are_blocks c.advance_past.new.self)

pub returns-clause-goes : goal.returns-clause-goes
returns-clause-goes c =
    let shorter = ap length (returns-clause-steps c) in
    record {
      progress = search rules;
      largest = search rules;
      advanced =
          λ x greatest. subst (λ last. IsAdvancedPast last (ipv6_subnet_range c.args.self.now)
          (ipv6_subnet_range c.advance_past.new.self))
          (c.last_number.ensures ∙ sym (last_from_greatest (ipv6_network c.largest_subnet_at-network.result) x
          greatest))
          c.advance_past.ensures;
      walk = ipv6_walk c.args.self.now;
      rest = ipv6_walk c.advance_past.new.self;
      over = search rules;
      unchanged = search rules;
    }
