-- The line ends at its first newline, and is an entry (`PlainLines`).
use Rattle.std.proofs.Common.{take}
use Rattle.ipnet.specs.declared.parser.Grammar.TheVariants.{Strict}
use Rattle.ipnet_lists.specs.EntryOf.{entry_range}
use Rattle.ipnet_lists.proofs.PlainLines.{plain_entry, plain_line}
use Rattle.ipnet_lists.proofs.reader.front_line.Goals as goal

pub returns-clause-lines : goal.returns-clause-lines
returns-clause-lines c =
    let bytes = c.args.bytes.now in
    let len = c.in_ok-entry.len in
    plain_line bytes len c.in_ok-entry.ensures.within c.in_ok-entry.ensures.newline
    (plain_entry Strict (take len bytes) (entry_range c.in_ok-entry.entry) (c.in_ok-entry.ensures.entry Strict))
