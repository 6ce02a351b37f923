-- The cells into which the ends of the rules' ranges cut the numbers of a family. Only private contracts use these.
use Rattle.std.specs.Prelude.{◌≡◌, ◌≢◌, ℕ, ◌+◌, ◌^◌, ◌<◌, ◌≤◌, ◌⊎◌, ◌↔◌, List, length, slice_index, Any, All}
use Rattle.std.specs.Prelude.{Contains}
use Rattle.std.specs.List.Sorted.{IsStrictlyIncreasing}
use Rattle.ipnet_base.specs.Address.{Family, IPv4, IPv6, address_at}
use Rattle.ipnet_rules.specs.declared.cells.Family.{Family as CellFamily}
use Rattle.ipnet_rules.specs.declared.cells.Family.TheVariants.{Ipv4, Ipv6}
use Rattle.ipnet_rules.specs.declared.cells.Piece.{Piece}
use Rattle.ipnet_rules.specs.declared.cells.Span.{Span}
use Rattle.ipnet_rules.specs.declared.cells.Cells.{Cells}
use Rattle.ipnet_rules.specs.declared.cells.Painting.{Painting}
use Rattle.ipnet_rules.specs.declared.rules.Addresses.{Addresses}
use Rattle.ipnet_rules.specs.declared.rules.Rule.{Rule}
use Rattle.ipnet_rules.specs.Rules.{IsOneOf}
use Rattle.ipnet_rules.specs.UnreachedRules.{MatchesAt, Decides}

-- the family of addresses
abbrev pub family_of : CellFamily → Family
family_of Ipv4 = IPv4
family_of Ipv6 = IPv6

-- the address of the family with this number is one of these
abbrev pub HasNumber : Family → Addresses → ℕ → Type 0
HasNumber f addresses n = IsOneOf addresses (address_at f n)

-- the number lies in the piece
abbrev pub IsInPiece : ℕ → Piece → Type 0
IsInPiece n p = (p.first ≤ n) × (n ≤ p.last)

-- the pieces have the numbers of the addresses of the family
pub record ArePieces (f : Family) (addresses : Addresses) (pieces : List Piece) : Type 0 where
  pub numbers : (n : ℕ) → HasNumber f addresses n ↔ Any (IsInPiece n) pieces
  pub fit : (n : ℕ) → HasNumber f addresses n → n < 2 ^ 128

-- the list has the first number of the piece, and the number after the last one
abbrev pub HasEndsOf : List ℕ → Piece → Type 0
HasEndsOf cuts p = Contains cuts p.first × (p.last + 1 < 2 ^ 128 → Contains cuts (p.last + 1))

-- the new list has what the old one has, and the ends of the piece
pub record HasPieceAdded (old : List ℕ) (p : Piece) (new : List ℕ) : Type 0 where
  pub kept : (n : ℕ) → Contains old n → Contains new n
  pub ends : HasEndsOf new p

-- the new list has what the old one has, and the ends of the pieces
pub record HasEndsAdded (old : List ℕ) (pieces : List Piece) (new : List ℕ) : Type 0 where
  pub kept : (n : ℕ) → Contains old n → Contains new n
  pub ends : All (HasEndsOf new) pieces

-- the number lies in the cell: from its cut on, and before the next one
pub record IsInCell (cuts : List ℕ) (cell n : ℕ) : Type 0 where
  pub within : cell < length cuts
  pub from_cut : slice_index cuts cell ≤ n
  pub before_next : cell + 1 < length cuts → n < slice_index cuts (cell + 1)
  pub fits : n < 2 ^ 128

-- the addresses contain all numbers of a cell or none, and each of their numbers lies in a cell
pub record AreCutsOf (f : Family) (cuts : List ℕ) (addresses : Addresses) : Type 0 where
  pub one_cell : (cell n : ℕ) → IsInCell cuts cell n
      → HasNumber f addresses n ↔ HasNumber f addresses (slice_index cuts cell)
  pub some_cell : (n : ℕ) → HasNumber f addresses n → (cell : ℕ) × IsInCell cuts cell n

-- the cuts ascend, and cut the addresses of each rule
pub record AreCuts (f : Family) (rules : List Rule) (cuts : List ℕ) : Type 0 where
  pub ascending : IsStrictlyIncreasing cuts
  pub cut : All (λ r. AreCutsOf f cuts r.addresses) rules

-- the cell is one of the span
abbrev pub IsInSpan : Span → ℕ → Type 0
IsInSpan s cell = (s.start ≤ cell) × (cell < s.end)

-- the span has the cells whose cuts lie in the piece
pub record IsSpanOf (cuts : List ℕ) (p : Piece) (s : Span) : Type 0 where
  pub cells : (cell : ℕ) → cell < length cuts → IsInSpan s cell ↔ IsInPiece (slice_index cuts cell) p
  pub within : s.end ≤ length cuts

-- the cut of the cell lies in one of the pieces
abbrev pub IsCutIn : List ℕ → List Piece → ℕ → Type 0
IsCutIn cuts pieces cell = Any (IsInPiece (slice_index cuts cell)) pieces

-- the owner of a cell
abbrev pub owner_of : Painting → ℕ → ℕ
owner_of p cell = slice_index p.owners.items cell

-- No cell from the one with this number on is free, up to the one with that number.
abbrev pub AreTaken : Painting → ℕ → ℕ → Type 0
AreTaken p from to = (cell : ℕ) → from ≤ cell → cell < to → owner_of p cell ≢ p.free

-- each cell with an owner skips to a later one, and no cell between them is free
pub record AreSkips (p : Painting) : Type 0 where
  pub count : length p.skips.items ≡ length p.owners.items
  pub later : (cell : ℕ) → cell < length p.owners.items → owner_of p cell ≢ p.free
      → (cell < slice_index p.skips.items cell) × (slice_index p.skips.items cell ≤ length p.owners.items)
      × AreTaken p cell (slice_index p.skips.items cell)

-- all cells are free
pub record IsFreePainting (count free : ℕ) (p : Painting) : Type 0 where
  pub skips : AreSkips p
  pub cells : length p.owners.items ≡ count
  pub of_free : p.free ≡ free
  pub each : (cell : ℕ) → cell < count → owner_of p cell ≡ free

-- the free cells of these now have the place as their owner, and the others have the owner that they had
pub record ArePainted (These : ℕ → Type 0) (place : ℕ) (old new : Painting) : Type 0 where
  pub cells : length new.owners.items ≡ length old.owners.items
  pub of_free : new.free ≡ old.free
  pub each : (cell : ℕ) → cell < length old.owners.items
      → (These cell × (owner_of old cell ≡ old.free) × (owner_of new cell ≡ place))
      ⊎ ((These cell → owner_of old cell ≢ old.free) × (owner_of new cell ≡ owner_of old cell))

-- The owner of the number among the rules before the place: the first one that matches it, or `free` if none does.
abbrev pub IsOwnerBefore : Family → List Rule → ℕ → ℕ → ℕ → ℕ → Type 0
IsOwnerBefore f rules place free n owner =
    ((owner ≡ free) × ((earlier : ℕ) → earlier < place → ¬ (MatchesAt rules earlier (address_at f n))))
    ⊎ ((owner < place) × Decides rules owner (address_at f n))

-- each cell has the owner of its cut among the rules before the place
abbrev pub AreOwnersBefore : Family → List Rule → List ℕ → ℕ → ℕ → List ℕ → Type 0
AreOwnersBefore f rules cuts place free owners = (cell : ℕ) → cell < length cuts
    → IsOwnerBefore f rules place free (slice_index cuts cell) (slice_index owners cell)

-- for each cell a later one, up to which all cells have its owner
pub record AreNexts (owners nexts : List ℕ) : Type 0 where
  pub count : length nexts ≡ length owners
  pub later : (cell : ℕ) → cell < length owners → cell < slice_index nexts cell
  pub same : (cell other : ℕ) → cell < length owners → cell ≤ other → other < slice_index nexts cell
      → slice_index owners other ≡ slice_index owners cell

-- the cuts ascend, each cell has an owner, and its later cell is known
pub record AreInOrder (cells : Cells) : Type 0 where
  pub cuts : IsStrictlyIncreasing cells.cuts.items
  pub owners : length cells.owners.items ≡ length cells.cuts.items
  pub nexts : AreNexts cells.owners.items cells.nexts.items

-- the cells of all rules
pub record AreCells (f : Family) (rules : List Rule) (cells : Cells) : Type 0 where
  pub cuts : AreCuts f rules cells.cuts.items
  pub count : length cells.owners.items ≡ length cells.cuts.items
  pub owners : AreOwnersBefore f rules cells.cuts.items (length rules) (length rules) cells.owners.items
  pub nexts : AreNexts cells.owners.items cells.nexts.items

-- the new list has what the old one has, and the owners of the cells from the start, up to the end
abbrev pub HasSpanAdded : List ℕ → ℕ → ℕ → List ℕ → List ℕ → Type 0
HasSpanAdded owners start end old new = (owner : ℕ) → Contains new owner ↔ (Contains old owner
    ⊎ ((cell : ℕ) × (start ≤ cell) × (cell < end) × (slice_index owners cell ≡ owner)))

-- the new list has what the old one has, and the owners of the cells whose cuts lie in the pieces
abbrev pub HasOwnersAdded : Cells → List Piece → List ℕ → List ℕ → Type 0
HasOwnersAdded cells pieces old new = (owner : ℕ) → Contains new owner ↔ (Contains old owner
    ⊎ ((cell : ℕ) × (cell < length cells.cuts.items) × IsCutIn cells.cuts.items pieces cell
    × (slice_index cells.owners.items cell ≡ owner)))
