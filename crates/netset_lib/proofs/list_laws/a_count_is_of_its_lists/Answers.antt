use Rattle.netset_lib.proofs.ListLaws.{count_answers}
use Rattle.netset_lib.proofs.list_laws.a_count_is_of_its_lists.Goals as goal

pub returns : goal.returns
returns c = λ lists. count_answers c.args.grammar lists c.args.names.now c.args.sets.now c.args.text.now
