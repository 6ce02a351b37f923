-- Runs of cells: a map of a set with many of them has many rectangles. Only private contracts use these.
use Rattle.std.specs.Prelude.{◌≡◌, ℕ, ◌<◌, List, length, All, AllPairs}
use Rattle.ipnet_base.specs.Address.{Address, IsAddressBefore}
use Rattle.ipnet_base.specs.Network.{Network, InBlock}
use Rattle.ipnet.specs.NetworkParts.{network_at}
use Rattle.ipnet_bars.specs.Parts.{HasNone}

-- A whole cell lies between the two blocks: all its addresses come after the first block, and before the second.
-- Example: with cells of length 24, 10.0.1.0/24 lies between 10.0.0.9/32 and 10.0.2.0/32.
abbrev pub IsCellBetween : ℕ → Network → Network → Type 0
IsCellBetween len n k = (z : Address) × ((w : Address) → InBlock (network_at z len) w
    → ((x : Address) → InBlock n x → IsAddressBefore x w) × ((y : Address) → InBlock k y → IsAddressBefore w y))

-- A cell without an address of the set is between the two blocks.
pub record IsCutOff (InSet : Address → Type 0) (len : ℕ) (n k : Network) : Type 0 where
  pub between : Address
  pub after : (x : Address) → InBlock n x → IsAddressBefore x between
  pub before : (y : Address) → InBlock k y → IsAddressBefore between y
  pub none : HasNone InSet (network_at between len)

-- Cells without an address of the set cut off this number of its blocks from each other.
-- Example: with cells of length 24, 10.0.0.9/32 and 10.0.2.0/32 are two such blocks of the set of both.
pub record HasRuns (InSet : Address → Type 0) (len count : ℕ) : Type 0 where
  pub starts : List Network
  pub within : All (λ n. (x : Address) → InBlock n x → InSet x) starts
  pub apart : AllPairs (IsCutOff InSet len) starts
  pub size : length starts ≡ count

-- There are more of them than a map may have rectangles.
abbrev pub HasManyRuns : (Address → Type 0) → ℕ → Type 0
HasManyRuns InSet len = (count : ℕ) × (65536 < count) × HasRuns InSet len count
