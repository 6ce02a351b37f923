-- The spans of the entries before the place.
use Rattle.std.proofs.Common.{map}
use Rattle.netset_entries.specs.EntryLineOf.{numbered}
use Rattle.netset_entries.specs.Spans.{family_of}
use Rattle.netset_entries.proofs.SpanLaws.{AreSpansTo}
use Rattle.netset_entries.proofs.span.spans_of.Given as goal

abbrev pub invariant-loop-place : goal.invariant-loop-place
invariant-loop-place l =
    AreSpansTo (map numbered l.lines) l.flags (family_of l.family) l.place l.spans.items
