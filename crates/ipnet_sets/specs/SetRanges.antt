-- The ranges of a set of addresses.
use Rattle.std.specs.Prelude.{◌≡◌, ℕ, ◌+◌, ◌<◌, ◌≤◌, ◌⊎◌, ◌↔◌, List, length, All, AllPairs, Any}
use Rattle.ipnet_base.specs.Address.{Family, Address, IsBetween, family_index}
use Rattle.ipnet_base.specs.Ranges.{AddressRange}

-- The range of the family with these ends.
-- Example: `range_of IPv4 0 5` is 0.0.0.0 to 0.0.0.5.
abbrev pub range_of : Family → ℕ → ℕ → AddressRange
range_of f start end = record { family = f; start = start; end = end }

-- The address lies in the range. Example: 10.0.0.3 lies in 10.0.0.0 to 10.0.0.5.
abbrev pub IsInRange : AddressRange → Address → Type 0
IsInRange r = IsBetween r.family r.start r.end

-- The first range comes before the second and does not touch it, or its family comes first.
-- Example: 10.0.0.0 to 10.0.0.5 and 10.0.0.7 to 10.0.0.9, with 10.0.0.6 between them.
abbrev pub LiesApart : AddressRange → AddressRange → Type 0
LiesApart r s = (family_index r.family < family_index s.family) ⊎ ((r.family ≡ s.family) × (r.end + 1 < s.start))

-- The ranges have exactly the addresses of the set. Each has an address, they ascend, and no two overlap or touch.
-- Example: 10.0.0.0 to 10.0.0.5 for the set of 10.0.0.0/30 and 10.0.0.4/31.
pub record AreRangesOf (InSet : Address → Type 0) (ranges : List AddressRange) : Type 0 where
  pub some : All (λ r. r.start ≤ r.end) ranges
  pub apart : AllPairs LiesApart ranges
  pub members : (x : Address) → InSet x ↔ Any (λ r. IsInRange r x) ranges

-- no list of ranges that have together the addresses of the set is shorter
abbrev pub AreFewestRangesOf : (Address → Type 0) → List AddressRange → Type 0
AreFewestRangesOf InSet ranges = (other : List AddressRange)
    → ((x : Address) → InSet x ↔ Any (λ r. IsInRange r x) other) → length ranges ≤ length other
