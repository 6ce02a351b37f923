-- The free addresses of a pool, as its private steps see them. `PoolOf` uses `IsIn`. Only private contracts use the
-- others.
use Rattle.std.specs.Prelude.{◌↔◌, ◌⊎◌}
use Rattle.ipnet_base.specs.Address.{Address}
use Rattle.ipnet_base.specs.Network.{Network, InBlock}
use Rattle.ipnet_base.specs.Blocks.{IsCoveredBy}
use Rattle.ipnet_pools.specs.BlocksOf.{blocks_of}
use Rattle.ipnet_pools.specs.Fits.{Without}
use Rattle.ipnet_pools.specs.declared.free.FreeBlocks.{FreeBlocks}

-- The address is free: it lies in one of the free blocks. Example: 10.0.0.9 lies in the free block 10.0.0.0/26.
abbrev pub IsIn : FreeBlocks → Address → Type 0
IsIn free = IsCoveredBy (blocks_of free.blocks)

-- the same addresses are free
abbrev pub HaveSameFree : FreeBlocks → FreeBlocks → Type 0
HaveSameFree old new = (x : Address) → IsIn new x ↔ IsIn old x

-- the network's addresses were free, and are not free now; all others are as they were
pub record IsCut (old new : FreeBlocks) (n : Network) : Type 0 where
  pub was_free : (x : Address) → InBlock n x → IsIn old x
  pub free : (x : Address) → IsIn new x ↔ Without (IsIn old) n x

-- the network's addresses are free now; all others are as they were
abbrev pub IsAdded : FreeBlocks → FreeBlocks → Network → Type 0
IsAdded old new n = (x : Address) → IsIn new x ↔ (IsIn old x ⊎ InBlock n x)
