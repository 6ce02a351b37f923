use Rattle.std.proofs.Common.{◌∷◌, ◌+◌, ◌∙◌, drop, map, sym, ap, subst, string_bytes, arith}
use Rattle.std.proofs.lemmas.List.{drop_more, drop_all}
use Rattle.ipnet.specs.NetworkOf.{ip_network}
use Rattle.ipnet_info.proofs.AllFactsLaws.{WrittenBefore, written_start, written_more, written_end}
use Rattle.ipnet_info.proofs.all_facts.all_facts_text.Goals as goal

pub loop-network-init : goal.loop-network-init
loop-network-init c =
    written_start c.args.form (map ip_network c.args.networks.now) (string_bytes c.new-text.result)
    c.new-text.ensures.bytes

pub loop-network-preserved : goal.loop-network-preserved
loop-network-preserved c =
    let networks = c.args.networks.now in
    let i = c.loop-network.network-index in
    let left = drop (i + 1) networks in
    let old = string_bytes c.loop-network.text in
    let facts = c.in_ok-push_facts.ensures in
    let cut = drop_more networks i _ c.loop-network-test.true
    ∙ ap (λ first. first ∷ left) (sym c.network-item.is) in
    written_more c.args.form (map ip_network networks) (ip_network c.network-item.result) (map ip_network left)
    c.loop-network.is_first old (string_bytes c.push_gap.new.text) (string_bytes c.push_facts.new.text) facts.0
    (subst (λ others. WrittenBefore c.args.form (map ip_network networks) (map ip_network others)
    c.loop-network.is_first old) cut c.loop-network.invariant)
    c.in_ok-push_gap.ensures facts.2 facts.1

pub returns : goal.returns
returns c =
    let networks = map ip_network c.args.networks.now in
    let text = string_bytes c.loop-network.text in
    written_end c.args.form networks c.loop-network.is_first text
    (subst (λ others. WrittenBefore c.args.form networks (map ip_network others) c.loop-network.is_first text)
    (drop_all c.loop-network.network-index c.args.networks.now
    (omega (arith, c.loop-network-test.false, c.loop-network.auto.network-index-end))) c.loop-network.invariant)
