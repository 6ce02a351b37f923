-- All addresses are between the first and the last one.
use Rattle.ipnet_base.specs.Address.{ip_address}
use Rattle.ipnet.specs.NetworkOf.{ip_network}
use Rattle.ipnet_sets.specs.Members.{IsMember}
use Rattle.ipnet_sets.proofs.WithinLaws.{between_ends}
use Rattle.ipnet_sets.proofs.set.IpSet.is_within.Goals as goal

pub returns-then-contains : goal.returns-then-contains
returns-then-contains c =
    let first = ip_address c.in-Some-Some.first in
    let last = ip_address c.in-Some-Some.last in (
      λ t. between_ends (IsMember c.args.self.now) (ip_network c.args.network.now) first last
          c.in-Some-Some.ensures.some c.in-Some-Some.ensures'.some (c.contains.ensures.0 c.if-contains.true)
          (c.contains-then-contains.ensures.0 t),
      λ all. c.contains-then-contains.ensures.1 (all last c.in-Some-Some.ensures'.some.member),
    )
