-- Each turn writes the value for one address more.
use Rattle.std.proofs.Common.{refl, subst, arith}
use Rattle.ipnet_routes.specs.TableImages.{HasTableHeader}
use Rattle.ipnet_c.proofs.TableReplies.{AreValuesTo, valued_more, valued_all}
use Rattle.ipnet_c.proofs.tables.ipnet_table_longest_match_all.Goals as goal

pub loop-index-init : goal.loop-index-init
loop-index-init c = record { as_many = refl; done = λ i less. absurd (omega arith) }

pub loop-index-preserved : goal.loop-index-preserved
loop-index-preserved c =
    valued_more c.in-Ok.image.table.bytes.now c.args.addresses.now c.args.width c.args.missing c.loop-index.index
    c.args.values.now c.loop-index.values c.value_for.result c.loop-index.invariant
    (omega (arith, c.loop-index-test.true, c.loop-index.auto.values)) c.value_for.ensures

pub returns : goal.returns
returns c =
    let same = c.in-Ok.ensures in
    valued_all c.args.table.now c.args.addresses.now c.args.width c.args.missing c.loop-index.index c.args.values.now
    c.loop-index.values (subst HasTableHeader same c.in-Ok.image.header)
    (c.are_items.ensures.0 (c.if-not-are_items.false))
    (subst (λ z. AreValuesTo z c.args.addresses.now c.args.width c.args.missing c.loop-index.index c.args.values.now
    c.loop-index.values) same c.loop-index.invariant)
    (omega (arith, c.loop-index-test.false))
