-- Entries of a list whose addresses the other entries have. `HasAt` says which addresses the entry at an index has,
-- counted from 0.
use Rattle.std.specs.Prelude.{◌≡◌, ◌⊎◌, ◌↔◌, ◌<◌, ℕ, Bool, true, false, List, length, slice_index_or}
use Rattle.ipnet_base.specs.Address.{Address}

-- The entry at this index is kept: its flag is true. Example: with the flags `true`, `false` only the entry at 0 is.
abbrev pub IsKept : List Bool → ℕ → Type 0
IsKept kept i = slice_index_or kept i false ≡ true

-- The entry at index j is another than the entry at index i, and it comes before it or is kept.
-- Example: with the flags `true`, `true`, `false` and i = 0, only the entry at 1.
abbrev pub IsStillThere : List Bool → ℕ → ℕ → Type 0
IsStillThere kept i j = (j < i) ⊎ ((i < j) × IsKept kept j)

-- The other entries, all before the one at index i and the kept ones after it, have all of its addresses.
abbrev pub IsCoveredByOthers : (ℕ → Address → Type 0) → List Bool → ℕ → Type 0
IsCoveredByOthers HasAt kept i = (x : Address) → HasAt i x → (j : ℕ) × IsStillThere kept i j × HasAt j x

-- From the last entry to the first, an entry is dropped if and only if the others that are still there have all of its
-- addresses. Example: of 10.0.0.0/9, 10.0.0.0/8, 10.0.0.0/8 the last is dropped, the second is kept, and the first is
-- dropped.
pub record AreKept (HasAt : ℕ → Address → Type 0) (count : ℕ) (kept : List Bool) : Type 0 where
  pub flags : length kept ≡ count
  pub dropped : (i : ℕ) → i < count → (¬ (IsKept kept i)) ↔ IsCoveredByOthers HasAt kept i
