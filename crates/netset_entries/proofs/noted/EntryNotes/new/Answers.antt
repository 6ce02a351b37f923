use Rattle.std.proofs.Common.{refl}
use Rattle.netset_entries.proofs.NotedLists.{first_list}
use Rattle.netset_entries.proofs.noted.EntryNotes.new.Goals as goal

pub returns : goal.returns
returns c = first_list c.args.grammar c.args.frame _ c.in_ok-new.ensures c.new-2.ensures.items refl
