-- Whether each rule decides on some address is known before the answer is written.
use Rattle.netset_lib.proofs.RuleWritingLaws.{outcome_of_list}
use Rattle.netset_lib.proofs.rule_program.UnreachedCommandCommand.write.Goals as goal

pub returns-in-Ok-write_unreached-clause-outcome : goal.returns-in-Ok-write_unreached-clause-outcome
returns-in-Ok-write_unreached-clause-outcome g c =
    outcome_of_list c.args.self.list c.in-Ok.prepared c.in-Ok.ensures.none c.in-Ok.ensures.prepared
