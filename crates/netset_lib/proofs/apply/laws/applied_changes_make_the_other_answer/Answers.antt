use Rattle.netset_lib.proofs.AppliedLaws.{applied_is_other, none_refused}
use Rattle.netset_lib.proofs.apply.laws.applied_changes_make_the_other_answer.Goals as goal

pub returns-clause-answer : goal.returns-clause-answer
returns-clause-answer c = λ h.
    applied_is_other c.args.grammar c.args.before.now c.args.after.now c.args.changes.now h c.args.form c.args.text.now

pub returns-clause-accepted : goal.returns-clause-accepted
returns-clause-accepted c = λ refused h.
    none_refused c.args.grammar c.args.before.now c.args.after.now c.args.changes.now h refused
