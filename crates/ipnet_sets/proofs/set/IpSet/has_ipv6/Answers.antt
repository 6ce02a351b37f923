use Rattle.std.proofs.Common.{map, ap}
use Rattle.ipnet_base.specs.Address.{IPv6}
use Rattle.ipnet_sets.proofs.SetEqualLaws.{has_family}
use Rattle.ipnet_sets.proofs.set.IpSet.has_ipv6.Goals as goal

pub returns : goal.returns
returns c =
    has_family c.args.self.now IPv6 c.as_slice.result.now c.is_empty.result
    (ap (map (λ n. n)) c.as_slice.ensures.value) c.args.self.now.ipv6_boundaries c.is_empty.ensures
