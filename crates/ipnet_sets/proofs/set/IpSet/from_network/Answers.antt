-- A block is the addresses from its least to its greatest.
use Rattle.std.proofs.Common.{◌↔◌}
use Rattle.std.proofs.lemmas.Result.{IfOk-weaker}
use Rattle.ipnet_base.specs.Address.{Address, ip_address}
use Rattle.ipnet_base.specs.Network.{InBlock}
use Rattle.ipnet.specs.NetworkOf.{ip_network}
use Rattle.ipnet_sets.specs.Members.{IsMember, IsFromTo}
use Rattle.ipnet_sets.proofs.MemberLaws.{block_from_to}
use Rattle.ipnet_sets.proofs.set.IpSet.from_network.Goals as goal

pub returns : goal.returns
returns c =
    let n = ip_network c.args.network.now in
    let low = ip_address c.network.result in
    let high = ip_address c.broadcast.result in
    IfOk-weaker c.from_range.result (λ s. (x : Address) → IsMember s x ↔ IsFromTo low high x)
    (λ s. (x : Address) → IsMember s x ↔ InBlock n x)
    (λ s same x.
    let block = block_from_to n low high c.network.ensures c.broadcast.ensures x in (
      λ m. block.1 ((same x).0 m),
      λ b. (same x).1 (block.0 b),
    )) c.from_range.ensures
