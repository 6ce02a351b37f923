-- One rule more.
use Rattle.std.proofs.Common.{◌+◌, subst, sym, arith}
use Rattle.netset_entries.proofs.RedundancyLaws.{AreRulesTo, rules_start, rules_push, rules_end}
use Rattle.netset_entries.proofs.redundancy.rules_of.Goals as goal

pub loop-line-init : goal.loop-line-init
loop-line-init c = rules_start c.args.lines.now c.new-rules.result.items c.new-rules.ensures.items

pub loop-line-preserved : goal.loop-line-preserved
loop-line-preserved c =
    subst (AreRulesTo c.args.lines.now (c.loop-line.line-index + 1)) (sym c.in_ok-push.ensures.items)
    (rules_push c.args.lines.now c.loop-line.line-index c.loop-line.rules.items c.rule_for.result
    c.line-item.result c.loop-line-test.true (sym c.line-item.is) c.loop-line.invariant c.rule_for.ensures.matched)

pub returns-clause-matched : goal.returns-clause-matched
returns-clause-matched c =
    rules_end c.args.lines.now c.loop-line.line-index c.loop-line.rules.items c.loop-line.invariant
    (omega (arith, c.loop-line-test.false, c.loop-line.auto.line-index-end))
