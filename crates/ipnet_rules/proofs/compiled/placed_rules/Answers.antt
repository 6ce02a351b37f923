-- One rule more.
use Rattle.std.proofs.Common.{◌+◌, [], ◌∷◌, ◌++◌, take, sym, subst, arith}
use Rattle.std.proofs.lemmas.List.{take_all}
use Rattle.ipnet_rules.specs.declared.compiled.PlacedRule.{PlacedRule}
use Rattle.ipnet_rules.specs.Cells.{family_of}
use Rattle.ipnet_rules.specs.CompiledLists.{ArePlaced, IsNetworkSpan}
use Rattle.ipnet_rules.proofs.CompiledLaws.{placed_nil, placed_push, take_item}
use Rattle.ipnet_rules.proofs.compiled.placed_rules.Goals as goal

pub loop-rule-init : goal.loop-rule-init
loop-rule-init c =
    let f = family_of c.args.family in
    subst (ArePlaced f c.args.cuts.now []) (sym c.new-placed.ensures.items) (placed_nil f c.args.cuts.now)

pub loop-rule-preserved : goal.loop-rule-preserved
loop-rule-preserved c =
    let f = family_of c.args.family in
    let cuts = c.args.cuts.now in
    let rules = c.args.rules.now in
    let i = c.loop-rule.rule-index in
    let p = c.rule-item.result in
    let placed : PlacedRule = record { rule = p; span = c.span_of-span.result } in
    subst (ArePlaced f cuts (take (i + 1) rules)) (sym c.in_ok-push.ensures.items)
    (subst (λ z. ArePlaced f cuts z (c.loop-rule.placed.items ++ placed ∷ []))
    (sym (take_item rules i p c.loop-rule-test.true c.rule-item.is))
    (placed_push f cuts (take i rules) c.loop-rule.placed.items placed c.loop-rule.invariant
    (subst (λ k. IsNetworkSpan f cuts k c.span_of-span.result) c.network.ensures c.span_of-span.ensures)))

pub returns : goal.returns
returns c =
    subst (λ z. ArePlaced (family_of c.args.family) c.args.cuts.now z c.loop-rule.placed.items)
    (take_all c.loop-rule.rule-index c.args.rules.now (omega (arith, c.loop-rule-test.false))) c.loop-rule.invariant
