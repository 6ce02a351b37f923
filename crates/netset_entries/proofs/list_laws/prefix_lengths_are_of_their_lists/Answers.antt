use Rattle.netset_entries.proofs.LengthLaws.{lengths_of_lists}
use Rattle.netset_entries.proofs.list_laws.prefix_lengths_are_of_their_lists.Goals as goal

pub returns : goal.returns
returns c = λ lists. lengths_of_lists c.args.grammar lists c.args.sets.now c.args.text.now
