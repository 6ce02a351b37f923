use Rattle.netset_lib.proofs.ListLaws.{operation_answers, no_family}
use Rattle.netset_lib.proofs.list_laws.an_operation_answers_its_lists.Goals as goal

pub returns-clause-answer : goal.returns-clause-answer
returns-clause-answer c = λ lists.
    operation_answers c.args.form c.args.grammar lists c.args.combination.now c.args.text.now

pub returns-clause-no_family : goal.returns-clause-no_family
returns-clause-no_family c = λ lists. no_family c.args.form c.args.grammar lists c.args.combination.now
