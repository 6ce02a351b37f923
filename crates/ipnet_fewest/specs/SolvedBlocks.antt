-- Blocks as the code has them. Only private contracts use these.
use Rattle.std.specs.Prelude.{◌≡◌, ℕ, List, [], ◌++◌, length, Contains}
use Rattle.std.specs.List.Sorted.{IsNonDecreasing}
use Rattle.ipnet_base.specs.Network.{Network, IsSubnetOf, IsTruncated}
use Rattle.ipnet.specs.NetworkOf.{ip_network}
use Rattle.ipnet_routes.specs.Routes.{Route}
use Rattle.ipnet_fewest.specs.ItemsOf.{items_of}
use Rattle.ipnet_fewest.specs.declared.block.Block.{Block}
use Rattle.ipnet_fewest.specs.declared.choice.Choice.{Choice}
use Rattle.ipnet_fewest.specs.Plans.{Plan, choices_of, IsSized}
use Rattle.ipnet_fewest.specs.Solved.{IsSolved, AreHalvesOf}

-- The values are the best of a block. The new choices are the old ones, and then the choices in the block.
pub record AreBestValues (old new : List Choice) (wanted : List (Route ℕ)) (value : ℕ) (around : Network)
    (values : List ℕ) : Type 0 where
  pub sorted : IsNonDecreasing values
  pub plan : Plan
  pub sized : IsSized plan
  pub added : new ≡ old ++ choices_of plan
  pub solved : IsSolved wanted value around values plan

-- The block is of this network, and has its best values and the number of its choices.
pub record IsBlock (old new : List Choice) (wanted : List (Route ℕ)) (value : ℕ) (around : Network) (block : Block)
    : Type 0 where
  pub network : ip_network block.network ≡ around
  pub best : AreBestValues old new wanted value around (items_of block.values)
  pub size : block.size ≡ length (choices_of best.plan)

-- The block is the whole network, and the choices are all choices in it. Addresses without a route have no value.
pub record IsSolution (wanted : List (Route ℕ)) (around : Network) (block : Block) (choices : List Choice) : Type 0
  where
    pub truncated : IsTruncated around
    pub of_block : IsBlock [] choices wanted 0 around block

-- The halves of a network are solved, one after the other.
pub record AreHalfBlocks (old new : List Choice) (front back : List (Route ℕ)) (value : ℕ) (around : Network)
    (first second : Block) : Type 0 where
  pub halves : AreHalvesOf (ip_network first.network) (ip_network second.network) around
  pub in_first : (r : Route ℕ) → Contains front r → IsSubnetOf r.0 (ip_network first.network)
  pub in_second : (r : Route ℕ) → Contains back r → IsSubnetOf r.0 (ip_network second.network)
  pub middle : List Choice
  pub of_first : IsBlock old middle front value (ip_network first.network) first
  pub of_second : IsBlock middle new back value (ip_network second.network) second
