-- Levels: how much of a cell is covered, and their order.
use Rattle.std.specs.Prelude.{◌≡◌, ℕ, ◌*◌, ◌<◌, ◌≤◌}
use Rattle.ipnet_base.specs.Address.{Address}
use Rattle.ipnet_base.specs.Network.{Network}
use Rattle.ipnet_sets.specs.Members.{IsCountOf}
use Rattle.ipnet_sets.specs.Parts.{IsInPart}
use Rattle.ipnet_bars.specs.Parts.{block_size}
use Rattle.ipnet_maps.specs.declared.level.Level.{Level}
use Rattle.ipnet_maps.specs.declared.level.Level.TheVariants.{Nothing, Sparse, BelowQuarter, FromQuarter, Whole}

-- `count` of `size` addresses are covered, and this is the level. So it is `Nothing` only for none, and `Whole` only
-- for all.
-- Example: of 65,536 addresses, 1 is `Sparse`, 256 are `BelowQuarter` and 30,000 are `FromQuarter`.
abbrev pub IsShare : Level → ℕ → ℕ → Type 0
IsShare Nothing count size = count ≡ 0
IsShare Sparse count size = (0 < count) × (count * 256 < size)
IsShare BelowQuarter count size = (size ≤ count * 256) × (count * 4 < size)
IsShare FromQuarter count size = (size ≤ count * 4) × (count < size)
IsShare Whole count size = count ≡ size

-- The level of the block: the share of its addresses that are in the set.
-- Example: 10.0.0.0/28 has 2 of its 16 addresses in 10.0.0.8 and 10.0.0.9, so its level is `BelowQuarter`.
pub record IsLevelOf (InSet : Address → Type 0) (n : Network) (level : Level) : Type 0 where
  pub count : ℕ
  pub is_count : IsCountOf (IsInPart InSet n) count
  pub share : IsShare level count (block_size n)

-- The place of the level among all levels, from 0. Example: 0 for `Nothing`, and 4 for `Whole`.
abbrev pub place_of : Level → ℕ
place_of Nothing = 0
place_of Sparse = 1
place_of BelowQuarter = 2
place_of FromQuarter = 3
place_of Whole = 4
