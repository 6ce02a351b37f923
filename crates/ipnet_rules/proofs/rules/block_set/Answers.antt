-- The block has the addresses from its least to its greatest.
use Rattle.std.proofs.Common.{◌∙◌, sym}
use Rattle.std.proofs.lemmas.Result.{IfOk-weaker}
use Rattle.ipnet_base.specs.Address.{ip_address}
use Rattle.ipnet.specs.NetworkOf.{ip_network}
use Rattle.ipnet_base.proofs.BlockLaws.{block_is_between}
use Rattle.ipnet_rules.proofs.rules.block_set.Goals as goal

pub returns : goal.returns
returns c =
    let n = ip_network c.args.network.now in
    let low = ip_address c.network.result in
    let high = ip_address c.broadcast.result in
    IfOk-weaker c.from_range.result _ _ (λ s h x.
    let b = block_is_between n low high x c.network.ensures c.broadcast.ensures in (
      λ m. let r = (h x).0 m in b.1 (record {
        of_family = r.family_of_start ∙ c.network.ensures.inside.same_family;
        from_start = r.from_start;
        to_end = r.to_end;
      }),
      λ a. let r = b.0 a in (h x).1 (record {
        family_of_start = a.same_family ∙ sym c.network.ensures.inside.same_family;
        family_of_end = a.same_family ∙ sym c.broadcast.ensures.inside.same_family;
        from_start = r.from_start;
        to_end = r.to_end;
      }),
    )) c.from_range.ensures
