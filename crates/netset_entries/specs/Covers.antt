-- The kept entries as spans, and the spans that cover numbers. Only private contracts use these.
use Rattle.std.specs.Prelude.{◌≡◌, ℕ, ◌+◌, ◌-◌, ◌<◌, ◌≤◌, List, length, map, take, drop, slice_index_or, All}
use Rattle.ipnet_base.specs.Address.{IPv4, IPv6}
use Rattle.netset_entries.specs.NumberedEntries.{NumberedEntry}
use Rattle.netset_entries.specs.declared.redundancy.Covered.{Covered}
use Rattle.netset_entries.specs.declared.redundancy.Kept.{Kept}
use Rattle.netset_entries.specs.declared.span.Span.{Span}
use Rattle.netset_entries.specs.Redundancy.{AreKeptEntries, Dropped}
use Rattle.netset_entries.specs.Spans.{AreSpans, for_family}

-- both ends of the second span are after those of the first
abbrev pub Rises : Span → Span → Type 0
Rises s t = (s.first < t.first) × (s.last < t.last)

-- the number is one of the span
abbrev pub IsInNumbers : ℕ → Span → Type 0
IsInNumbers n s = (s.first ≤ n) × (n ≤ s.last)

-- the span is at this index of the list
abbrev pub IsSpanAt : List Span → ℕ → Span → Type 0
IsSpanAt spans k s = (k < length spans) × (slice_index_or spans k s ≡ s)

-- the spans from the start, before the end, reach from the first number to the last: the one at the start is the last
-- that begins up to the first number, and the one before the end is the first from there on that ends from the last on
pub record IsReach (spans : List Span) (first last start end : ℕ) : Type 0 where
  pub some : start < end
  pub within : end ≤ length spans
  pub begins : (s : Span) → IsSpanAt spans start s → s.first ≤ first
  pub after : (k : ℕ) (s : Span) → start < k → IsSpanAt spans k s → first < s.first
  pub short : (k : ℕ) (s : Span) → start ≤ k → k + 1 < end → IsSpanAt spans k s → s.last < last
  pub reaches : (k : ℕ) (s : Span) → k + 1 ≡ end → IsSpanAt spans k s → last ≤ s.last

-- the flags say which entries are kept, and the spans are theirs
pub record IsKeptOf (entries : List NumberedEntry) (k : Kept) : Type 0 where
  pub kept : AreKeptEntries entries k.flags.items
  pub ipv4 : AreSpans entries k.flags.items IPv4 k.ipv4.items
  pub ipv6 : AreSpans entries k.flags.items IPv6 k.ipv6.items

-- the dropped entry, and the entries of the spans that cover it
abbrev pub dropped_of : List Span → List Span → Covered → Dropped
dropped_of ipv4 ipv6 c = record {
  index = c.entry;
  witness = map (λ s. s.place) (take (c.end - c.start) (drop c.start (for_family c.family ipv4 ipv6)));
}

-- the covering spans are spans of the kept entries of the family
abbrev pub IsWithin : Kept → Covered → Type 0
IsWithin k c = (c.start ≤ c.end) × (c.end ≤ length (for_family c.family k.ipv4.items k.ipv6.items))

-- so are those of each dropped entry
abbrev pub IsCoveredWithin : Kept → List Covered → Type 0
IsCoveredWithin k covered = All (IsWithin k) covered
