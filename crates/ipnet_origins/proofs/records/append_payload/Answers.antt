-- The five numbers of a payload follow each other.
use Rattle.std.proofs.Common.{ap, ◌∙◌}
use Rattle.ipnet_origins.specs.OriginImages.{family_number}
use Rattle.ipnet_origins.proofs.RecordLaws.{payload_added}
use Rattle.ipnet_origins.proofs.records.append_payload.Goals as goal

pub returns : goal.returns
returns c =
    payload_added c.args.payload.now c.family_and_number-family.result.0 c.from.result c.from-2.result c.asn.result
    c.family_and_number-family.result.1 c.args.bytes.now.items c.append_u32.new.bytes.items
    c.append_u32-2.new.bytes.items c.append_u32-3.new.bytes.items c.append_u32-4.new.bytes.items
    c.append_u128.new.bytes.items c.in_ok-append_u32.ensures c.in_ok-append_u32-2.ensures
    c.in_ok-append_u32-3.ensures c.in_ok-append_u32-4.ensures c.in_ok-append_u128.ensures
    (c.family_and_number-family.ensures.family ∙ ap (λ n. family_number n.family) c.network-network.ensures.network)
    (c.from.ensures ∙ c.prefix_len.ensures ∙ ap (λ n. n.prefix_len) c.network-network.ensures.network)
    (c.from-2.ensures ∙ c.max_len.ensures.value) c.asn.ensures
    (c.family_and_number-family.ensures.number ∙ ap (λ n. n.number) c.network-network.ensures.network)
