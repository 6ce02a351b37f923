use Rattle.ipnet.specs.declared.parser.Grammar.TheVariants.{Legacy}
use Rattle.ipnet_lists.specs.Entries.{IsEntryText}
use Rattle.ipnet_lists.specs.EntryOf.{entry_range}
use Rattle.ipnet_lists.proofs.CauseTexts.{none_is}
use Rattle.ipnet_lists.proofs.cause_parts.is_entry.Goals as goal

pub returns-in-None : goal.returns-in-None
returns-in-None c =
    none_is entry_range (IsEntryText Legacy) c.args.text.now c.read_entry.result c.read_entry.ensures.reads
    c.in-None.is
