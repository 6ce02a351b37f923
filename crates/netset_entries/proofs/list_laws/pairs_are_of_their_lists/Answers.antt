use Rattle.netset_entries.proofs.PairLineLaws.{pairs_answer, pairs_outcome}
use Rattle.netset_entries.proofs.list_laws.pairs_are_of_their_lists.Goals as goal

pub returns-clause-text : goal.returns-clause-text
returns-clause-text c = λ lists of.
    pairs_answer c.args.grammar lists c.args.sets.now of c.args.names.now c.args.text.now

pub returns-clause-same : goal.returns-clause-same
returns-clause-same c = λ lists of. pairs_outcome c.args.grammar lists c.args.sets.now of c.args.same
