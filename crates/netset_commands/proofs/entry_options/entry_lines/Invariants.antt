-- the first entries are one line each, and the text has their lines
use Rattle.std.proofs.Common.{◌≡◌, All, string_bytes, take}
use Rattle.netset_commands.specs.EntryOptions.{IsOneLine, entry_lines}
use Rattle.netset_commands.proofs.EntryLaws.{texts_of}
use Rattle.netset_commands.proofs.entry_options.entry_lines.Given as goal

abbrev pub invariant-loop-entry : goal.invariant-loop-entry
invariant-loop-entry l = record {
  count : l.number ≡ l.entry-index;
  one_line : All IsOneLine (texts_of (take l.entry-index l.entries));
  lines : string_bytes l.text ≡ entry_lines (texts_of (take l.entry-index l.entries));
}
