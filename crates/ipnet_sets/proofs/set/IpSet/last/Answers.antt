-- IPv6 comes after IPv4, so the greatest IPv4 number is last only if the set has no IPv6 number.
use Rattle.std.proofs.Common.{map, ap}
use Rattle.ipnet_base.specs.Address.{IPv4, IPv6}
use Rattle.ipnet_sets.proofs.MemberLaws.{some_from_greatest}
use Rattle.ipnet_sets.proofs.set.IpSet.last.Goals as goal

pub returns-in-Some-clause-none : goal.returns-in-Some-clause-none
returns-in-Some-clause-none c = (
  λ t. cc,
  λ none. absurd (some_from_greatest c.args.self.now IPv6 c.as_slice.result.now c.in-Some.number
      (ap (map (λ n. n)) c.as_slice.ensures.value) c.in-Some.ensures.some none),
)

pub returns-in_ok-number-in-None-clause-none : goal.returns-in_ok-number-in-None-clause-none
returns-in_ok-number-in-None-clause-none c = (
  λ t. cc,
  λ none. absurd (some_from_greatest c.args.self.now IPv4 c.as_slice-in-None.result.now c.in_ok-number-in-None.number
      (ap (map (λ n. n)) c.as_slice-in-None.ensures.value) c.in_ok-number-in-None.ensures.some none),
)
