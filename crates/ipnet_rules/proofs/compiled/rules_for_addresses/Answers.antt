-- One rule more.
use Rattle.std.proofs.Common.{◌+◌, [], ◌∷◌, ◌++◌, take, sym, subst, arith}
use Rattle.std.proofs.lemmas.List.{take_all}
use Rattle.ipnet_rules.specs.CompiledLists.{AreRulesForAddresses}
use Rattle.ipnet_rules.proofs.CompiledLaws.{for_nil, for_push, take_item}
use Rattle.ipnet_rules.proofs.compiled.rules_for_addresses.Goals as goal

pub loop-rule-init : goal.loop-rule-init
loop-rule-init c = subst (AreRulesForAddresses []) (sym c.new-list.ensures.items) for_nil

pub loop-rule-preserved : goal.loop-rule-preserved
loop-rule-preserved c =
    let rules = c.args.rules.now in
    let i = c.loop-rule.rule-index in
    let p = c.rule-item.result in
    subst (AreRulesForAddresses (take (i + 1) rules)) (sym c.in_ok-push.ensures.items)
    (subst (λ z. AreRulesForAddresses z (c.loop-rule.list.items ++ c.for_addresses.result ∷ []))
    (sym (take_item rules i p c.loop-rule-test.true c.rule-item.is))
    (for_push (take i rules) p c.loop-rule.list.items c.for_addresses.result c.loop-rule.invariant
    c.for_addresses.ensures.addresses))

pub returns : goal.returns
returns c =
    subst (λ z. AreRulesForAddresses z c.loop-rule.list.items)
    (take_all c.loop-rule.rule-index c.args.rules.now (omega (arith, c.loop-rule-test.false))) c.loop-rule.invariant
