-- Parts of a list of blocks, as far as they are known. Only private contracts cite these.
use Rattle.std.specs.Prelude.{◌≡◌, ◌⊎◌, ℕ, ◌+◌, ◌<◌, ◌≤◌, ◌^◌, List, ◌++◌, length}
use Rattle.ipnet_base.specs.Network.{Network, host_bits}
use Rattle.ipnet_base.specs.Blocks.{IsCoveredBy}
use Rattle.ipnet.specs.NetworkOf.{ip_network}
use Rattle.ipnet_sets.specs.Members.{IsMember}
use Rattle.ipnet_shortest.specs.PartCovers.{IsAllowedCover, IsSolved, AreParts, HaveRoom}
use Rattle.ipnet_shortest.specs.Plans.{size_of, networks_of, IsSound}
use Rattle.ipnet_shortest.specs.declared.part.Part.{Part}
use Rattle.ipnet_shortest.specs.declared.part.Terms.{Terms}

-- The limit is not 0, and two such numbers have a sum.
pub record IsLimit (limit : ℕ) : Type 0 where
  pub some : 0 < limit
  pub fits : limit < 2 ^ 62

-- The part is right for these blocks.
pub record IsPartOf (blocks : List Network) (terms : Terms) (part : Part) : Type 0 where
  pub solved : IsSolved (IsCoveredBy blocks) (IsMember terms.allowed) terms.limit (ip_network part.around) part.lacking
      part.fewest part.costs.items (networks_of part.plan)
  pub sound : IsSound part.plan
  pub size : size_of part.plan ≡ length part.costs.items

-- No list of networks within the limit covers the blocks and only allowed addresses.
abbrev pub HasNoCover : List Network → Terms → Type 0
HasNoCover blocks terms = (networks : List Network)
    → IsAllowedCover (IsCoveredBy blocks) (IsMember terms.allowed) networks → terms.limit < length networks

-- Two parts whose numbers can be added.
pub record CanBeJoined (limit : ℕ) (first second : Part) (around : Network) : Type 0 where
  pub sizes : 2 ^ host_bits (ip_network first.around) + 2 ^ host_bits (ip_network second.around) ≤ 2 ^ host_bits around
  pub first_lacks : first.lacking < 2 ^ host_bits (ip_network first.around)
  pub second_lacks : second.lacking < 2 ^ host_bits (ip_network second.around)
  pub first_some : 0 < length first.costs.items
  pub second_some : 0 < length second.costs.items
  pub first_few : first.fewest + length first.costs.items ≤ limit + 1
  pub second_few : second.fewest + length second.costs.items ≤ limit + 1
  pub room : HaveRoom first.costs.items second.costs.items

-- The parts are right for these blocks in two halves of the network.
pub record AreJoined (front back : List Network) (terms : Terms) (first second : Part) (around : Network) : Type 0 where
  pub parts : AreParts (IsCoveredBy front) (IsCoveredBy back) (IsCoveredBy (front ++ back)) (ip_network first.around)
      (ip_network second.around) around
  pub of_front : IsPartOf front terms first
  pub of_back : IsPartOf back terms second

-- How many costs both parts have together: all of them, or as many as the limit allows.
pub record IsCostCount (limit : ℕ) (first second : Part) (count : ℕ) : Type 0 where
  pub within : count + 1 ≤ length first.costs.items + length second.costs.items
  pub some : first.fewest + second.fewest ≤ limit → 0 < count
  pub few : 0 < count → first.fewest + second.fewest + count ≤ limit + 1
  pub none : limit < first.fewest + second.fewest → count ≡ 0
  pub all : first.fewest + second.fewest ≤ limit + 1
      → (count + 1 ≡ length first.costs.items + length second.costs.items)
      ⊎ (first.fewest + second.fewest + count ≡ limit + 1)
