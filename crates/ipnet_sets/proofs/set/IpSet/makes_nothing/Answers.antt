-- The result for two sets is empty if and only if it has no number of either family.
use Rattle.std.proofs.Common.{map, ap}
use Rattle.ipnet_base.specs.Address.{IPv4, IPv6}
use Rattle.ipnet_base.proofs.ResultLaws.{false_gives}
use Rattle.ipnet_sets.proofs.MemberLaws.{nothing_in_slices, nothing_in_families, nothing_of_family}
use Rattle.ipnet_sets.proofs.set.IpSet.makes_nothing.Goals as goal

pub returns-then-makes_nothing : goal.returns-then-makes_nothing
returns-then-makes_nothing c =
    let s = c.args.self.now in
    let t = c.args.other.now in
    let ipv4 = nothing_in_slices c.args.operation s t IPv4 c.as_slice.result.now c.as_slice-2.result.now
    c.makes_nothing.result (ap (map (λ n. n)) c.as_slice.ensures.value)
    (ap (map (λ n. n)) c.as_slice-2.ensures.value) c.makes_nothing.ensures in
    let ipv6 = nothing_in_slices c.args.operation s t IPv6 c.as_slice-then-makes_nothing.result.now
    c.as_slice-then-makes_nothing-2.result.now c.makes_nothing-then-makes_nothing.result
    (ap (map (λ n. n)) c.as_slice-then-makes_nothing.ensures.value)
    (ap (map (λ n. n)) c.as_slice-then-makes_nothing-2.ensures.value)
    c.makes_nothing-then-makes_nothing.ensures in (
      λ e. nothing_in_families c.args.operation s t (ipv4.0 c.if-makes_nothing.true) (ipv6.0 e),
      λ h. ipv6.1 (nothing_of_family c.args.operation s t IPv6 h),
    )

pub returns-else-makes_nothing : goal.returns-else-makes_nothing
returns-else-makes_nothing c =
    let s = c.args.self.now in
    let t = c.args.other.now in
    let ipv4 = nothing_in_slices c.args.operation s t IPv4 c.as_slice.result.now c.as_slice-2.result.now
    c.makes_nothing.result (ap (map (λ n. n)) c.as_slice.ensures.value)
    (ap (map (λ n. n)) c.as_slice-2.ensures.value) c.makes_nothing.ensures in (
      λ e. let never = c.if-makes_nothing.false in absurd (cc),
      λ h. absurd (false_gives c.makes_nothing.result ipv4 c.if-makes_nothing.false
          (nothing_of_family c.args.operation s t IPv4 h)),
    )
