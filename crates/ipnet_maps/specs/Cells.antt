-- Cells: a map shows each network of one prefix length in its frame as one cell.
use Rattle.std.specs.Prelude.{ℕ, min}
use Rattle.ipnet_base.specs.Address.{Address, IsAddress}
use Rattle.ipnet_base.specs.Network.{Network}
use Rattle.ipnet.specs.NetworkParts.{network_at}
use Rattle.ipnet_bars.specs.declared.change.Change.TheVariants.{Unchanged}
use Rattle.ipnet_bars.specs.Changes.{IsChange}
use Rattle.ipnet_bars.specs.Parts.{HasAll}

-- The address is in a cell with this property, in a map whose cells have this prefix length. The cell of an address is
-- the block of the network of the address and this prefix length.
-- Example: if the cells of length 24 are those with an address of 10.0.0.9/32 to 10.0.1.3/32, the addresses are
-- 10.0.0.0/23.
pub record IsInCell (cell_len : ℕ) (HasProperty : Network → Type 0) (x : Address) : Type 0 where
  pub fits : IsAddress x
  pub cell : HasProperty (network_at x cell_len)

-- The network itself, or the cell in which it is, if it is smaller than a cell. Only private contracts use this.
-- Example: of 10.0.0.9/32 and 24 it is 10.0.0.9/24; of 10.0.0.0/16 and 24 it is 10.0.0.0/16.
abbrev pub widened : Network → ℕ → Network
widened n cell_len = record n { prefix_len = min n.prefix_len cell_len }

-- Both sets have the same addresses of the cell, and these are some of them and not all.
abbrev pub IsKeptPart : (Address → Type 0) → (Address → Type 0) → Network → Type 0
IsKeptPart Before After n = IsChange Before After n Unchanged × ¬ (HasAll Before n)

-- Both sets have all addresses of the cell.
abbrev pub IsKeptWhole : (Address → Type 0) → (Address → Type 0) → Network → Type 0
IsKeptWhole Before After n = HasAll Before n × HasAll After n
