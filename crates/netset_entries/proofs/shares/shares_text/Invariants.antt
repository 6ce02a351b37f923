-- The lines of the entries before this one.
use Rattle.std.proofs.Common.{map}
use Rattle.ipnet_sets.specs.Members.{IsMember}
use Rattle.netset_entries.specs.EntryLineOf.{numbered}
use Rattle.netset_entries.specs.Shares.{IsShareLineAt}
use Rattle.netset_entries.specs.TextParts.{AreTextParts}
use Rattle.netset_entries.proofs.shares.shares_text.Given as goal

abbrev pub invariant-loop-line : goal.invariant-loop-line
invariant-loop-line l =
    AreTextParts (IsShareLineAt (IsMember l.set) (map numbered l.entries)) 0 l.line-index l.text.items
