-- Each block is in the network, up to the first that is not.
use Rattle.std.proofs.Common.{map, ap, sym, ◌∙◌, arith}
use Rattle.std.proofs.lemmas.List.{get_or-map, length-map}
use Rattle.ipnet_base.proofs.ResultLaws.{true_gives, false_gives}
use Rattle.ipnet.specs.NetworkOf.{ip_network}
use Rattle.ipnet_shortest.proofs.HalfLaws.{leading_more, leading_here}
use Rattle.ipnet_shortest.proofs.halves.leading_in.Goals as goal

pub returns-then-not-contains : goal.returns-then-not-contains
returns-then-not-contains c =
    let blocks = c.args.blocks.now in
    let i = c.loop-index.index in
    let b = c.index-blocks-index.result in
    leading_here (map ip_network blocks) (ip_network c.args.network.now) (ip_network b) i
    (omega (arith, length-map blocks ip_network, c.loop-index-test.true))
    (get_or-map ip_network blocks i b (ip_network b) c.loop-index-test.true
    ∙ ap ip_network (sym c.index-blocks-index.is))
    c.loop-index.invariant (false_gives c.contains.result c.contains.ensures c.if-not-contains.true)

pub loop-index-preserved : goal.loop-index-preserved
loop-index-preserved c =
    let blocks = c.args.blocks.now in
    let i = c.loop-index.index in
    let b = c.index-blocks-index.result in
    leading_more (map ip_network blocks) (ip_network c.args.network.now) (ip_network b) i
    (omega (arith, length-map blocks ip_network, c.loop-index-test.true))
    (get_or-map ip_network blocks i b (ip_network b) c.loop-index-test.true
    ∙ ap ip_network (sym c.index-blocks-index.is))
    c.loop-index.invariant (true_gives c.contains.result c.contains.ensures c.if-not-contains.false)
