-- A block is the addresses from its least to its greatest.
use Rattle.std.proofs.Common.{inl, inr}
use Rattle.std.proofs.lemmas.Result.{on_ok_weaker}
use Rattle.ipnet_base.specs.Address.{ip_address}
use Rattle.ipnet.specs.NetworkOf.{ip_network}
use Rattle.ipnet_sets.proofs.MemberLaws.{block_from_to}
use Rattle.ipnet_sets.proofs.set.builder.IpSetBuilder.push_network.Goals as goal

pub returns-clause-added : goal.returns-clause-added
returns-clause-added c =
    on_ok_weaker c.push_range.result (λ same x.
    let block = block_from_to (ip_network c.args.network.now) (ip_address c.network.result)
    (ip_address c.broadcast.result) c.network.ensures c.broadcast.ensures x in (
      λ m. elim ((same x).0 m) [ inl old ↦ inl old | inr b ↦ inr (block.1 b) ],
      λ m. (same x).1 (elim m [ inl old ↦ inl old | inr b ↦ inr (block.0 b) ]),
    )) c.push_range.ensures.added
