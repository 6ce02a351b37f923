use Rattle.ipnet.specs.declared.parser.Grammar.TheVariants.{Legacy}
use Rattle.ipnet_lists.specs.Entries.{WriteRange}
use Rattle.ipnet_lists.specs.EntryOf.{entry_range}
use Rattle.ipnet_lists.proofs.CauseTexts.{none_is}
use Rattle.ipnet_lists.proofs.cause_follows.are_end_texts.Goals as goal

pub returns-in-None : goal.returns-in-None
returns-in-None c =
    none_is entry_range (WriteRange Legacy c.args.first.now) c.args.last.now c.read_range.result
    c.read_range.ensures.reads c.in-None.is
