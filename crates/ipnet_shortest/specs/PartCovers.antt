-- The covers of a part of a set, for each number of networks. Only private contracts cite these.
use Rattle.std.specs.Prelude.{◌≡◌, ℕ, ◌+◌, ◌-◌, ◌<◌, ◌≤◌, ◌^◌, ◌⊎◌, ◌↔◌, List, [], ◌∷◌, length, get_or, All}
use Rattle.ipnet_base.specs.Address.{Address}
use Rattle.ipnet_base.specs.Network.{Network, IsNetwork, InBlock, IsSubnetOf, AreDisjoint, host_bits}
use Rattle.ipnet_base.specs.Blocks.{IsCoveredBy}
use Rattle.ipnet_sets.specs.Members.{IsCountOf}
use Rattle.ipnet_shortest.specs.Covers.{IsAdded}

-- A list that covers every address of the set, and only allowed addresses.
pub record IsAllowedCover (InSet IsAllowed : Address → Type 0) (networks : List Network) : Type 0 where
  pub valid : All IsNetwork networks
  pub covers : (x : Address) → InSet x → IsCoveredBy networks x
  pub allowed : (x : Address) → IsCoveredBy networks x → IsAllowed x

-- The address is in the block, and the set lacks it.
abbrev pub IsLacking : (Address → Type 0) → Network → Address → Type 0
IsLacking InSet block x = InBlock block x × ¬ (InSet x)

-- The address is in the block, and the list adds it.
abbrev pub IsAddedIn : (Address → Type 0) → Network → List Network → Address → Type 0
IsAddedIn InSet block networks x = InBlock block x × IsAdded InSet networks x

-- The list adds at least `added` addresses of the block.
abbrev pub AddsAtLeast : (Address → Type 0) → Network → ℕ → List Network → Type 0
AddsAtLeast InSet block added networks = (more : ℕ) → IsCountOf (IsAddedIn InSet block networks) more → added ≤ more

-- At most `count` networks inside the block, which cover the set and add `added` addresses.
pub record IsPartCover (InSet IsAllowed : Address → Type 0) (block : Network) (count added : ℕ)
    (networks : List Network) : Type 0 where
  pub cover : IsAllowedCover InSet IsAllowed networks
  pub within : (x : Address) → IsCoveredBy networks x → InBlock block x
  pub few : length networks ≤ count
  pub are_added : IsCountOf (IsAdded InSet networks) added

-- The costs of a set in a block: at index i the fewest addresses that `fewest + i` networks add, up to the limit.
-- `lists` are the networks that add so few. The last cost is the least of any list within the limit.
pub record AreCosts (InSet IsAllowed : Address → Type 0) (limit : ℕ) (block : Network) (fewest : ℕ) (costs : List ℕ)
    (lists : ℕ → List Network) : Type 0 where
  pub some : 0 < length costs
  pub first : 0 < fewest
  pub short : fewest + length costs ≤ limit + 1
  pub covers : (i : ℕ) → i < length costs
      → IsPartCover InSet IsAllowed block (fewest + i) (get_or costs i 0) (lists i)
  pub none : (networks : List Network) → IsAllowedCover InSet IsAllowed networks → fewest ≤ length networks
  pub least : (i : ℕ) → i < length costs → (networks : List Network) → IsAllowedCover InSet IsAllowed networks
      → length networks ≤ fewest + i → AddsAtLeast InSet block (get_or costs i 0) networks
  pub last : (i : ℕ) → i + 1 ≡ length costs → (networks : List Network) → IsAllowedCover InSet IsAllowed networks
      → length networks ≤ limit → AddsAtLeast InSet block (get_or costs i 0) networks

-- The first part gets `share` of the networks, the second gets the rest, and no other share costs less.
pub record IsBestShare (first second : List ℕ) (more share : ℕ) : Type 0 where
  pub within : share ≤ more
  pub in_first : share < length first
  pub in_second : more - share < length second
  pub least : (i j : ℕ) → i < length first → j < length second → i + j ≡ more
      → get_or first share 0 + get_or second (more - share) 0 ≤ get_or first i 0 + get_or second j 0

-- The best shares of 0, 1 and so on networks.
abbrev pub AreBestShares : List ℕ → List ℕ → List ℕ → Type 0
AreBestShares first second shares = (i : ℕ) → i < length shares → IsBestShare first second i (get_or shares i 0)

-- The costs of both parts with these shares, of `more` networks and so on.
abbrev pub costs_from : List ℕ → List ℕ → ℕ → List ℕ → List ℕ
costs_from first second more [] = []
costs_from first second more (share ∷ shares) =
    (get_or first share 0 + get_or second (more - share) 0) ∷ costs_from first second (more + 1) shares

-- The costs of two parts fit in words.
abbrev pub HaveRoom : List ℕ → List ℕ → Type 0
HaveRoom first second = (i j : ℕ) → i < length first → j < length second
    → get_or first i 0 + get_or second j 0 < 2 ^ 128

-- Any network that has an address of both blocks contains the block around them.
abbrev pub IsAroundBoth : Network → Network → Network → Type 0
IsAroundBoth block first second = (n : Network) (x y : Address) → InBlock n x → InBlock first x → InBlock n y
    → InBlock second y → IsSubnetOf block n

-- Two blocks that share no address have the two parts of the set, and one block is around both.
pub record AreParts (InFirst InSecond InSet : Address → Type 0) (first second block : Network) : Type 0 where
  pub disjoint : AreDisjoint first second
  pub around : IsAroundBoth block first second
  pub first_within : IsSubnetOf first block
  pub second_within : IsSubnetOf second block
  pub parts : (x : Address) → InSet x ↔ (InFirst x ⊎ InSecond x)

-- A part of a set, as far as it is known: the number of addresses that the block around it has and the part lacks, and
-- the costs.
pub record IsSolved (InSet IsAllowed : Address → Type 0) (limit : ℕ) (block : Network) (lacking fewest : ℕ)
    (costs : List ℕ) (lists : ℕ → List Network) : Type 0 where
  pub network : IsNetwork block
  pub holds : (x : Address) → InSet x → InBlock block x
  pub is_lacking : IsCountOf (IsLacking InSet block) lacking
  pub lacks_less : lacking < 2 ^ host_bits block
  pub whole : ((x : Address) → InBlock block x → IsAllowed x) → fewest ≡ 1
  pub are_costs : AreCosts InSet IsAllowed limit block fewest costs lists

-- A cover within the limit that adds at most `spare` addresses, or no more than any other cover within the limit. No
-- cover within the limit that adds so few has fewer networks. None with as few networks adds fewer addresses.
pub record IsBestOf (InSet IsAllowed : Address → Type 0) (limit spare : ℕ) (networks : List Network) : Type 0 where
  pub cover : IsAllowedCover InSet IsAllowed networks
  pub few : length networks ≤ limit
  pub added : ℕ
  pub are_added : IsCountOf (IsAdded InSet networks) added
  pub within : (added ≤ spare) ⊎ ((others : List Network) (more : ℕ) → IsAllowedCover InSet IsAllowed others
      → length others ≤ limit → IsCountOf (IsAdded InSet others) more → added ≤ more)
  pub fewest_networks : (others : List Network) (more : ℕ) → IsAllowedCover InSet IsAllowed others
      → length others ≤ limit → IsCountOf (IsAdded InSet others) more → (more ≤ spare) ⊎ (more ≤ added)
      → length networks ≤ length others
  pub fewest_added : (others : List Network) (more : ℕ) → IsAllowedCover InSet IsAllowed others
      → length others ≤ length networks → IsCountOf (IsAdded InSet others) more → added ≤ more
