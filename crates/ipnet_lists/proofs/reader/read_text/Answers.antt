use Rattle.std.proofs.Common.{◌≡◌, refl, sym, subst, rules}
use Rattle.ipnet_lists.specs.Entries.{IsEntryText}
use Rattle.ipnet_lists.specs.FoundEntry.{found_range}
use Rattle.ipnet_lists.proofs.EntryTexts.{reads_none}
use Rattle.ipnet_lists.proofs.ListLines.{entry_utf8}
use Rattle.ipnet_lists.proofs.reader.read_text.Goals as goal

pub returns-in-Err-clause-reads : goal.returns-in-Err-clause-reads
returns-in-Err-clause-reads c =
    reads_none found_range (IsEntryText c.args.grammar) c.args.text.now
    (λ range h. c.in-Err.ensures.cases.0 (entry_utf8 c.args.grammar c.args.text.now range h))

pub returns-in-None-clause-reads : goal.returns-in-None-clause-reads
returns-in-None-clause-reads c =
    let grammar = c.args.grammar in
    let same : c.in-Ok.text.now ≡ c.args.text.now = search rules in
    reads_none found_range (IsEntryText grammar) c.args.text.now
    (λ range h. c.in-None.ensures.reads.none.0 refl range (subst (λ z. IsEntryText grammar z range) (sym same) h))
