-- Blocks that are split, and blocks that are joined with their other halves. Only private contracts cite these.
use Rattle.std.specs.Prelude.{◌≡◌, ◌≤◌, ◌↔◌, ◌⊎◌, List, map, Contains}
use Rattle.ipnet_base.specs.Address.{Address}
use Rattle.ipnet_base.specs.Network.{Network, IsNetwork, InBlock, IsSubnetOf, AreDisjoint, IsTruncated, AreHalves}
use Rattle.ipnet_base.specs.Blocks.{IsCoveredBy, IsMaximal}
use Rattle.ipnet.specs.declared.net.IpNet.{IpNet}
use Rattle.ipnet.specs.NetworkOf.{ip_network}
use Rattle.ipnet_pools.specs.Fits.{Without}

-- both lists have the same networks
abbrev pub HaveSameNetworks : List Network → List Network → Type 0
HaveSameNetworks old new = (m : Network) → Contains new m ↔ Contains old m

-- the part lies in the block, and both have no host bits
pub record IsPartOf (part block : Network) : Type 0 where
  pub within : IsSubnetOf part block
  pub truncated : IsTruncated part
  pub whole : IsTruncated block

-- no network of the list lies in the block and is at least as large as the part, except the block itself
abbrev pub HasNoPieces : List Network → Network → Network → Type 0
HasNoPieces list part block = (m : Network) → Contains list m → IsSubnetOf m block → m.prefix_len ≤ part.prefix_len
    → m ≡ block

-- the maximal blocks of the rest of the block, without the part, were added
abbrev pub IsSplit : List Network → List Network → Network → Network → Type 0
IsSplit old new part block = (m : Network) → Contains new m
    ↔ (Contains old m ⊎ IsMaximal (Without (InBlock block) part) 0 m)

-- no two networks of the list share an address, and each lies in the part or beside it
pub record AreBeside (list : List Network) (part : Network) : Type 0 where
  pub apart : (m k : Network) → Contains list m → Contains list k → (x : Address) → InBlock m x → InBlock k x → m ≡ k
  pub beside : (m : Network) → Contains list m → IsSubnetOf m part ⊎ AreDisjoint m part

-- the other half of the network is not in the list, or it has none
abbrev pub LacksHalf : List Network → Network → Type 0
LacksHalf list n = (n.prefix_len ≡ 0)
    ⊎ ((h : Network) × AreHalves n h × IsNetwork h × IsTruncated h × ¬ (Contains list h))

-- The part was joined with the networks beside it into one network, `top`, which took their place. Networks in the part
-- stayed.
pub record IsJoined (old new : List Network) (part : Network) : Type 0 where
  pub top : Network
  pub network : IsNetwork top
  pub truncated : IsTruncated top
  pub above : IsSubnetOf part top
  pub within : (x : Address) → InBlock top x → InBlock part x ⊎ IsCoveredBy old x
  pub lacks : LacksHalf old top
  pub members : (m : Network) → Contains new m
      ↔ ((m ≡ top) ⊎ (Contains old m × (IsSubnetOf m part ⊎ ¬ (IsSubnetOf m top))))

-- the list has the networks of the set, and those that are left
abbrev pub IsListedSoFar : List IpNet → List Network → List IpNet → Type 0
IsListedSoFar all set rest = (m : Network) → (Contains set m ⊎ Contains (map ip_network rest) m)
    ↔ Contains (map ip_network all) m
