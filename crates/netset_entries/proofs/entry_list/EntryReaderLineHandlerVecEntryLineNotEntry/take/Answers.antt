use Rattle.std.proofs.Common.{refl}
use Rattle.netset_entries.proofs.entry_list.EntryReaderLineHandlerVecEntryLineNotEntry.take.Goals as goal

pub returns-in-None : goal.returns-in-None
returns-in-None c = ((c.in-None.ensures.reads.none.0 refl, refl), refl)
