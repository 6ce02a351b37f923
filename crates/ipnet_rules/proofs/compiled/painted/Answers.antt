-- One rule more paints, or matches no network of this length.
use Rattle.std.proofs.Common.{◌≤◌, [], ◌∷◌, ◌++◌, take, ap, sym, subst, ◌∙◌, arith}
use Rattle.std.proofs.lemmas.List.{take_all}
use Rattle.ipnet_rules.specs.Cells.{IsInSpan, ArePainted}
use Rattle.ipnet_rules.specs.CompiledLists.{ArePaintedBy, paint_for}
use Rattle.ipnet_rules.proofs.CompiledLaws.{painted_nil, painted_push, painted_skip, paint_some, take_item}
use Rattle.ipnet_rules.proofs.compiled.painted.Goals as goal
use Rattle.ipnet_rules.proofs.compiled.painted.Goals.{then-can_match, else-can_match}

pub loop-placed_rule-init : goal.loop-placed_rule-init
loop-placed_rule-init c =
    painted_nil c.args.prefix_len c.args.count c.in_ok-painting.painting c.in_ok-painting.ensures

pub paint-requires-clause-within : goal.paint-requires-clause-within
paint-requires-clause-within c =
    let r = c.placed_rule-item.result in
    let end : r.span.end ≤ c.args.count = subst (λ q. q.span.end ≤ c.args.count) (sym c.placed_rule-item.is)
    (c.requires c.loop-placed_rule.placed_rule-index r c.loop-placed_rule-test.true) in
    omega (arith, end, c.loop-placed_rule.invariant.cells)

pub paint-requires-clause-place : goal.paint-requires-clause-place
paint-requires-clause-place c = λ e.
    paint_some c.placed_rule-item.result.rule.action
    (sym (c.paint_of.ensures ∙ ap paint_for c.action.ensures) ∙ e ∙ c.loop-placed_rule.invariant.of_free)

pub loop-placed_rule-preserved : goal.loop-placed_rule-preserved
loop-placed_rule-preserved c =
    let len = c.args.prefix_len in
    let count = c.args.count in
    let list = c.args.placed.now in
    let i = c.loop-placed_rule.placed_rule-index in
    let r = c.placed_rule-item.result in
    let old = c.loop-placed_rule.painting in
    subst (λ z. ArePaintedBy len z count c.if-can_match.painting)
    (sym (take_item list i r c.loop-placed_rule-test.true c.placed_rule-item.is))
    (elim c.if-can_match.branch [
      | then-can_match w ↦
          subst (ArePaintedBy len (take i list ++ r ∷ []) count) (sym w.painting-is)
          (painted_push len count (take i list) r old w.paint.new.self c.loop-placed_rule.invariant
          (c.can_match.ensures.0 w.if-can_match.true) w.paint.ensures.skips
          (subst (λ place. ArePainted (IsInSpan r.span) place old w.paint.new.self)
          (w.paint_of.ensures ∙ ap paint_for w.action.ensures) w.paint.ensures.painted))
      | else-can_match w ↦
          subst (ArePaintedBy len (take i list ++ r ∷ []) count) (sym w.painting-is)
          (painted_skip len count (take i list) r old c.loop-placed_rule.invariant
          (λ can. let yes = c.can_match.ensures.1 can in let no = w.if-can_match.false in absurd (cc)))
    ])

pub returns : goal.returns
returns c =
    subst (λ z. ArePaintedBy c.args.prefix_len z c.args.count c.loop-placed_rule.painting)
    (take_all c.loop-placed_rule.placed_rule-index c.args.placed.now (omega (arith, c.loop-placed_rule-test.false)))
    c.loop-placed_rule.invariant
