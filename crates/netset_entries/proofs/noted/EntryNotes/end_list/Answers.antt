use Rattle.std.proofs.Common.{refl}
use Rattle.netset_entries.proofs.NotedLists.{next_list}
use Rattle.netset_entries.proofs.noted.EntryNotes.end_list.Goals as goal

pub returns-in-Ok-clause-noted : goal.returns-in-Ok-clause-noted
returns-in-Ok-clause-noted c = λ grammar frame lists begun h.
    next_list grammar frame lists begun c.end_last.new.self _ (c.in-Ok.ensures grammar frame lists begun h) refl refl
    refl
