use Rattle.std.proofs.Common.{refl}
use Rattle.netset_lib.proofs.RuleLaws.{no_rule, rule_cause}
use Rattle.netset_lib.proofs.rule_line.read_rule.Goals as goal

pub addresses_cause-requires : goal.addresses_cause-requires
addresses_cause-requires c = c.in-None.ensures.none refl

pub returns-in-None-clause-none : goal.returns-in-None-clause-none
returns-in-None-clause-none c =
    no_rule c.args.grammar c.args.text.now c.cut_word.result.1.now c.cut_word.ensures.rest (c.in-None.ensures.none refl)

pub returns-in-None-clause-cause : goal.returns-in-None-clause-cause
returns-in-None-clause-cause c =
    rule_cause c.args.grammar c.args.text.now c.cut_word.result.0.now c.cut_word.result.1.now c.in-Some.action
    c.addresses_cause.result c.cut_word.ensures.word c.cut_word.ensures.rest
    ((c.action_of.ensures c.in-Some.action).0 c.in-Some.is) (c.in-None.ensures.none refl)
    c.addresses_cause.ensures
