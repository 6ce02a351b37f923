-- The steps of a walk over the networks of a set, which finds the level of each cell. Only private contracts use these.
use Rattle.std.specs.Prelude.{◌≡◌, ◌⊎◌, ◌↔◌, ◌+◌, Option, Some, None}
use Rattle.ipnet_base.specs.Address.{Address}
use Rattle.ipnet_base.specs.Network.{Network, InBlock, IsSubnetOf}
use Rattle.ipnet.specs.NetworkOf.{ip_network}
use Rattle.ipnet_sets.specs.Pushed.{IsPushed}
use Rattle.ipnet_maps.specs.declared.level.Level.{Level}
use Rattle.ipnet_maps.specs.declared.level.Level.TheVariants.{Nothing, Sparse, BelowQuarter, FromQuarter, Whole}
use Rattle.ipnet_bars.specs.Parts.{block_size}
use Rattle.ipnet_maps.specs.Levels.{IsShare}
use Rattle.ipnet_maps.specs.declared.levels.KnownCells.{KnownCells}
use Rattle.ipnet_maps.specs.declared.levels.OpenCell.{OpenCell}

-- The address is in a cell that is known to have this level. Example: no address is in a cell of the level `Nothing`.
abbrev pub IsPushedAs : KnownCells → Level → Address → Type 0
IsPushedAs known Nothing x = ⊥
IsPushedAs known Sparse x = IsPushed known.some x
IsPushedAs known BelowQuarter x = IsPushed known.below_quarter x
IsPushedAs known FromQuarter x = IsPushed known.from_quarter x
IsPushedAs known Whole x = IsPushed known.whole x

-- The addresses of the network are added to the cells of the level, and the other cells stay.
abbrev pub IsPushedTo : KnownCells → KnownCells → Level → Network → Type 0
IsPushedTo old new level n = (l : Level) (x : Address)
    → IsPushedAs new l x ↔ (IsPushedAs old l x ⊎ ((l ≡ level) × InBlock n x))

-- The open cell, if there is one, is added to the cells of the level of its share.
abbrev pub IsClosed : KnownCells → KnownCells → Option OpenCell → Type 0
IsClosed old new None = (l : Level) (x : Address) → IsPushedAs new l x ↔ IsPushedAs old l x
IsClosed old new (Some c) = (level : Level)
    × IsShare level (c.more + 1) (block_size (ip_network c.network))
    × IsPushedTo old new level (ip_network c.network)

-- The network is in the open cell.
abbrev pub IsOpenFor : Option OpenCell → Network → Type 0
IsOpenFor None n = ⊥
IsOpenFor (Some c) n = IsSubnetOf n (ip_network c.network)

-- The network is in the open cell, and its addresses are added to the number of the cell.
abbrev pub IsJoined : Option OpenCell → Network → OpenCell → Type 0
IsJoined None n new = ⊥
IsJoined (Some c) n new = IsSubnetOf n (ip_network c.network) × (new.network ≡ c.network)
    × (new.more ≡ c.more + block_size n)
