-- The addresses of entries as numbers of their family.
-- Only private contracts use these.
use Rattle.std.specs.Prelude.{◌≡◌, ◌⊎◌, ◌<◌, ◌≤◌, ℕ, Bool, true, false, List, slice_index_or, Contains}
use Rattle.std.specs.Prelude.{AllPairs}
use Rattle.ipnet_base.specs.Address as addresses
use Rattle.ipnet_base.specs.Ranges.{AddressRange}
use Rattle.ipnet_sets.specs.SetRanges.{range_of}
use Rattle.netset_entries.specs.NumberedEntries.{NumberedEntry}
use Rattle.netset_entries.specs.declared.span.Family.{Family}
use Rattle.netset_entries.specs.declared.span.Family.TheVariants.{Ipv4, Ipv6}
use Rattle.netset_entries.specs.declared.span.Span.{Span}
use Rattle.netset_entries.specs.EntryPlaces.{IsEntryAt}

-- the family of addresses
abbrev pub family_of : Family → addresses.Family
family_of Ipv4 = addresses.IPv4
family_of Ipv6 = addresses.IPv6

-- of two values, the one of this family
abbrev pub for_family : {T : Type 0} → Family → T → T → T
for_family Ipv4 ipv4 ipv6 = ipv4
for_family Ipv6 ipv4 ipv6 = ipv6

-- the span of the entry at this index, which is of the family and has an address
pub record IsSpanFor (range : AddressRange) (f : addresses.Family) (place : ℕ) (s : Span) : Type 0 where
  pub is : range ≡ range_of f s.first s.last
  pub some : s.first ≤ s.last
  pub at : s.place ≡ place

-- the entry is of another family, or has no address
abbrev pub HasNoSpan : AddressRange → addresses.Family → Type 0
HasNoSpan range f = range.family ≡ f → ¬ (range.start ≤ range.end)

-- the span is of the entry at its index, which has a true flag and an address
pub record IsSpanIn (entries : List NumberedEntry) (flags : List Bool) (f : addresses.Family) (s : Span) : Type 0 where
  pub entry : NumberedEntry
  pub at : IsEntryAt entries s.place entry
  pub range : entry.range ≡ range_of f s.first s.last
  pub flag : slice_index_or flags s.place false ≡ true
  pub some : s.first ≤ s.last

-- an entry of the family with a true flag and an address, and its index
pub record IsFlagged (entries : List NumberedEntry) (flags : List Bool) (f : addresses.Family) (i : ℕ) : Type 0 where
  pub entry : NumberedEntry
  pub at : IsEntryAt entries i entry
  pub of_family : entry.range.family ≡ f
  pub flag : slice_index_or flags i false ≡ true
  pub some : entry.range.start ≤ entry.range.end

-- the first span begins before the second, or with it, and is of an earlier entry
abbrev pub IsBeforeSpan : Span → Span → Type 0
IsBeforeSpan s t = (s.first < t.first) ⊎ ((s.first ≡ t.first) × (s.place < t.place))

-- the spans of the entries of the family that have a true flag and an address, in order
pub record AreSpans (entries : List NumberedEntry) (flags : List Bool) (f : addresses.Family) (spans : List Span)
    : Type 0 where
  pub ordered : AllPairs IsBeforeSpan spans
  pub each : (s : Span) → Contains spans s → IsSpanIn entries flags f s
  pub all : (i : ℕ) → IsFlagged entries flags f i → (s : Span) × Contains spans s × (s.place ≡ i)
