-- Lists of networks that are the maximal blocks of what they cover. Only private contracts cite these.
use Rattle.std.specs.Prelude.{◌≡◌, List, Contains}
use Rattle.ipnet_base.specs.Address.{Address}
use Rattle.ipnet_base.specs.Network.{Network, IsNetwork, InBlock, IsSubnetOf, IsTruncated}
use Rattle.ipnet_base.specs.Blocks.{IsCoveredBy}

-- no network has host bits, and no larger network has only addresses that the list covers
pub record AreOwnBlocks (networks : List Network) : Type 0 where
  pub truncated : (n : Network) → Contains networks n → IsTruncated n
  pub unjoined : (n k : Network) → Contains networks n → IsNetwork k → IsTruncated k → IsSubnetOf n k → ¬ (k ≡ n)
      → ¬ ((x : Address) → InBlock k x → IsCoveredBy networks x)
