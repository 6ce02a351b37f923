-- The rule at the index is added if it matches networks of this length.
use Rattle.std.proofs.Common.{◌≡◌, suc, ◌+◌, [], ◌∷◌, ◌++◌, take, ap, sym, subst, ◌∙◌, arith}
use Rattle.std.proofs.Math.Seq.{take-suc}
use Rattle.ipnet_rules.specs.RoutesOfLength.{AreRulesOfLength}
use Rattle.ipnet_rules.proofs.RouteLaws.{length_nil, length_push, length_skip}
use Rattle.ipnet_rules.proofs.route_sets.rules_of_length.Goals as goal
use Rattle.ipnet_rules.proofs.route_sets.rules_of_length.Goals.{then-can_match+in_ok-push, else-can_match}

pub loop-rule-init : goal.loop-rule-init
loop-rule-init c =
    subst (AreRulesOfLength [] c.args.prefix_len) (sym c.new-list.ensures.items) (length_nil c.args.prefix_len)

pub loop-rule-preserved : goal.loop-rule-preserved
loop-rule-preserved c =
    let rules = c.args.rules.now in
    let len = c.args.prefix_len in
    let i = c.loop-rule.rule-index in
    let p = c.rule-item.result in
    let next : i + 1 ≡ suc i = omega arith in
    let front : take (i + 1) rules ≡ take i rules ++ p ∷ [] =
    ap (λ k. take k rules) next ∙ (take-suc rules i p c.loop-rule-test.true
    ∙ ap (λ q. take i rules ++ q ∷ []) (sym c.rule-item.is)) in
    subst (λ z. AreRulesOfLength z len c.if-can_match.list.items) (sym front)
    (elim c.if-can_match.branch [
      | then-can_match+in_ok-push w ↦
          subst (λ z. AreRulesOfLength (take i rules ++ p ∷ []) len z.items) (sym w.list-is)
          (subst (AreRulesOfLength (take i rules ++ p ∷ []) len) (sym w.in_ok-push.ensures.items)
          (length_push (take i rules) p len c.loop-rule.list.items w.for_addresses.result c.loop-rule.invariant
          (c.can_match.ensures.0 w.if-can_match.true) w.for_addresses.ensures.action
          w.for_addresses.ensures.addresses))
      | else-can_match w ↦
          subst (λ z. AreRulesOfLength (take i rules ++ p ∷ []) len z.items) (sym w.list-is)
          (length_skip (take i rules) p len c.loop-rule.list.items c.loop-rule.invariant
          (λ can. let yes = c.can_match.ensures.1 can in let no = w.if-can_match.false in absurd (cc)))
    ])
