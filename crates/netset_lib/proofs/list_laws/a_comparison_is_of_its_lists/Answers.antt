use Rattle.netset_lib.proofs.ListLaws.{comparison_answers, comparison_same_lists}
use Rattle.netset_lib.proofs.list_laws.a_comparison_is_of_its_lists.Goals as goal

pub returns-clause-text : goal.returns-clause-text
returns-clause-text c = λ lists.
    comparison_answers c.args.grammar lists c.args.first.now c.args.second.now c.args.text.now

pub returns-clause-same : goal.returns-clause-same
returns-clause-same c = λ lists.
    comparison_same_lists c.args.grammar lists c.args.first.now c.args.second.now c.args.same
