use Rattle.std.proofs.Common.{◌≡◌, ◌++◌, map, refl, sym, ap, ◌∙◌, subst, append-nil}
use Rattle.std.proofs.lemmas.List.{map_push}
use Rattle.ipnet.specs.NetworkOf.{ip_network}
use Rattle.ipnet.specs.SubnetsLeft.{ip_subnets_left}
use Rattle.ipnet_base.specs.Blocks.{AreMaximalBlocks}
use Rattle.ipnet_sets.specs.SetRanges.{IsInRange}
use Rattle.ipnet_lists.specs.EntryOf.{entry_range}
use Rattle.netset_lib.specs.TextSteps.{texts_in}
use Rattle.netset_lib.proofs.TextLaws.{put_more}
use Rattle.netset_lib.proofs.text_table.push_blocks.Goals as goal

pub loop-network-init : goal.loop-network-init
loop-network-init c = refl

pub loop-network-preserved : goal.loop-network-preserved
loop-network-preserved c =
    let text = c.args.text.now in
    let old = texts_in c.loop-network.routes.items in
    let whole = texts_in c.args.routes.now.items
    ++ map (λ n. (n, text)) (ip_subnets_left c.into_iter-network-iterator.result) in
    put_more whole old (texts_in c.push.new.self.items) (ip_network c.in-Some.network) (ip_subnets_left c.next.new.self)
    text
    (subst (λ z. old ++ map (λ k. (k, text)) z ≡ whole) c.in-Some.ensures.steps c.loop-network.invariant)
    (ap texts_in c.in_ok-push.ensures.items
    ∙ map_push (λ r. (ip_network r.0, r.1.now)) c.loop-network.routes.items (c.in-Some.network, c.args.text))

pub returns : goal.returns
returns c =
    let text = c.args.text.now in
    let now = texts_in c.loop-network.routes.items in
    let whole = texts_in c.args.routes.now.items
    ++ map (λ n. (n, text)) (ip_subnets_left c.into_iter-network-iterator.result) in (
      ip_subnets_left c.into_iter-network-iterator.result,
      subst (λ w. AreMaximalBlocks (IsInRange (entry_range c.args.entry)) 0 (ip_subnets_left w))
          (sym c.into_iter-network-iterator.ensures.into_iter_gives) c.walk-network-items.ensures,
      sym (append-nil now)
          ∙ subst (λ z. now ++ map (λ k. (k, text)) z ≡ whole) c.in-None.ensures.steps.0 c.loop-network.invariant,
    )
