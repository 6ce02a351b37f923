-- The private steps of keeping rules: the cells of both families in the order of their owners.
-- Only private contracts use these.
use Rattle.std.specs.Prelude.{◌≡◌, ◌≢◌, ◌⊎◌, ◌<◌, ◌≤◌, ℕ, Bool, List, length, slice_index, slice_index_or, Contains}
use Rattle.std.specs.List.Sorted.{IsNonDecreasingBy}
use Rattle.ipnet_base.specs.Address.{Address, address_at}
use Rattle.ipnet_rules.specs.declared.cells.Cells.{Cells}
use Rattle.ipnet_rules.specs.declared.cells.Family.{Family}
use Rattle.ipnet_rules.specs.declared.cells.Family.TheVariants.{Ipv4, Ipv6}
use Rattle.ipnet_rules.specs.declared.cells.Painting.{Painting}
use Rattle.ipnet_rules.specs.declared.kept.OwnedCell.{OwnedCell}
use Rattle.ipnet_rules.specs.declared.rules.Rule.{Rule}
use Rattle.ipnet_rules.specs.Cells.{family_of, owner_of, AreSkips}
use Rattle.ipnet_rules.specs.KeptRules.{IsKept}
use Rattle.ipnet_rules.specs.UnreachedRules.{MatchesAt, Decides}

-- of two values, the one of this family
abbrev pub for_family : {T : Type 0} → Family → T → T → T
for_family Ipv4 ipv4 ipv6 = ipv4
for_family Ipv6 ipv4 ipv6 = ipv6

-- a cell of the family, and its owner
pub record IsCellOf (family : Family) (owners : List ℕ) (o : OwnedCell) : Type 0 where
  pub of_family : o.family ≡ family
  pub within : o.cell < length owners
  pub owner : o.owner ≡ slice_index owners o.cell

-- the new list has what the old one has, and the cells of the family
pub record HasCellsAdded (family : Family) (owners : List ℕ) (old new : List OwnedCell) : Type 0 where
  pub kept : (o : OwnedCell) → Contains old o → Contains new o
  pub all : (o : OwnedCell) → IsCellOf family owners o → Contains new o
  pub only : (o : OwnedCell) → Contains new o → Contains old o ⊎ IsCellOf family owners o

-- the list has the cells of both families in the order of their owners
pub record AreByOwner (ipv4 ipv6 : Cells) (cells : List OwnedCell) : Type 0 where
  pub ascending : IsNonDecreasingBy (λ o. o.owner) cells
  pub all : (f : Family) (o : OwnedCell) → IsCellOf f (for_family f ipv4 ipv6).owners.items o → Contains cells o
  pub only : (o : OwnedCell) → Contains cells o → IsCellOf o.family (for_family o.family ipv4 ipv6).owners.items o

-- the first address of the cell
abbrev pub first_of_cell : Family → Cells → ℕ → Address
first_of_cell f cells cell = address_at (family_of f) (slice_index cells.cuts.items cell)

-- a cell is painted if and only if a kept rule matches its addresses
pub record IsPaintedBy (f : Family) (rules : List Rule) (cells : Cells) (kept : List Bool) (p : Painting) : Type 0 where
  pub skips : AreSkips p
  pub count : length p.owners.items ≡ length cells.cuts.items
  pub of_free : p.free ≡ length rules
  pub free : (cell : ℕ) → cell < length cells.cuts.items → owner_of p cell ≡ p.free
      → (k : ℕ) → IsKept kept k → ¬ (MatchesAt rules k (first_of_cell f cells cell))
  pub painted : (cell : ℕ) → cell < length cells.cuts.items → owner_of p cell ≢ p.free
      → (k : ℕ) × IsKept kept k × MatchesAt rules k (first_of_cell f cells cell)

-- the rule decides on an address that no later rule that is kept matches
abbrev pub HasOwn : List Rule → List Bool → ℕ → Type 0
HasOwn rules kept j = (x : Address) × Decides rules j x
    × ((k : ℕ) → j < k → IsKept kept k → ¬ (MatchesAt rules k x))

-- the cell is at this index of the list
abbrev pub IsAt : List OwnedCell → ℕ → OwnedCell → Type 0
IsAt cells i o = (i < length cells) × (slice_index_or cells i o ≡ o)

-- the cells from the place on are looked at
pub record AreKeptFrom (rules : List Rule) (ipv4 ipv6 : Cells) (cells : List OwnedCell) (place : ℕ) (kept : List Bool)
    : Type 0 where
  pub flags : length kept ≡ length rules
  pub own : (j : ℕ) → IsKept kept j → HasOwn rules kept j
  pub later : (j : ℕ) → IsKept kept j → (i : ℕ) (o : OwnedCell) → i < place → IsAt cells i o → o.owner ≤ j
  pub covered : (i : ℕ) (o : OwnedCell) → place ≤ i → IsAt cells i o → o.owner < length rules → (k : ℕ)
      × IsKept kept k × MatchesAt rules k (first_of_cell o.family (for_family o.family ipv4 ipv6) o.cell)
