-- The shifts lose no bit.
use Rattle.std.proofs.Common.{arith}
use Rattle.ipnet_routes.proofs.BucketLaws.{one_bit, few_buckets, some_entries, no_entries}
use Rattle.ipnet_routes.proofs.routes.image.buckets.Buckets.entries.Goals as goal

pub returns-then-self-eq0-clause-size : goal.returns-then-self-eq0-clause-size
returns-then-self-eq0-clause-size c =
    no_entries c.args.self.now.ipv4_bits c.args.self.now.ipv6_bits c.if-self-eq0.true

pub returns-clause-size : goal.returns-clause-size
returns-clause-size c =
    let self = c.args.self.now in
    omega (
      arith,
      one_bit self.ipv4_bits self.ipv4_few,
      one_bit self.ipv6_bits self.ipv6_few,
      some_entries self.ipv4_bits self.ipv6_bits (omega (arith, c.if-self-eq0.false)),
    )

pub returns-clause-few : goal.returns-clause-few
returns-clause-few c =
    let self = c.args.self.now in
    omega (
      arith,
      one_bit self.ipv4_bits self.ipv4_few,
      one_bit self.ipv6_bits self.ipv6_few,
      few_buckets self.ipv4_bits self.ipv4_few,
      few_buckets self.ipv6_bits self.ipv6_few,
    )
