-- Lists of networks that cover a set of addresses and no forbidden address, within a limit of networks or of added
-- addresses; and the best of them.
-- In the examples, the set is 10.0.0.0/32, 10.0.0.3/32 and 10.0.0.8/32.
use Rattle.std.specs.Prelude.{ℕ, ◌≤◌, List, length, All}
use Rattle.ipnet_base.specs.Address.{Address}
use Rattle.ipnet_base.specs.Network.{Network, IsNetwork, IsTruncated}
use Rattle.ipnet_base.specs.Blocks.{IsCoveredBy, ArePairwiseDisjoint, IsAscending}
use Rattle.ipnet_sets.specs.Members.{IsCountOf}

-- A list of at most `limit` networks that covers every address of the set, and no forbidden address.
-- Example: 10.0.0.0/30, 10.0.0.8/32 with the limit 2, if 10.0.0.1 and 10.0.0.2 are not forbidden.
pub record IsCoverWithin (limit : ℕ) (InSet IsForbidden : Address → Type 0) (networks : List Network) : Type 0 where
  pub valid : All IsNetwork networks
  pub few : length networks ≤ limit
  pub covers : (x : Address) → InSet x → IsCoveredBy networks x
  pub avoids : (x : Address) → IsCoveredBy networks x → ¬ (IsForbidden x)

-- Networks without host bits, in ascending order. No two of them share an address.
-- Example: 10.0.0.0/30, 10.0.0.8/32.
pub record AreInOrder (networks : List Network) : Type 0 where
  pub truncated : All IsTruncated networks
  pub disjoint : ArePairwiseDisjoint networks
  pub ascending : IsAscending networks

-- The list covers the address, and the set does not have it.
-- Example: 10.0.0.0/30, 10.0.0.8/32 adds the two addresses 10.0.0.1 and 10.0.0.2.
abbrev pub IsAdded : (Address → Type 0) → List Network → Address → Type 0
IsAdded InSet networks x = IsCoveredBy networks x × ¬ (InSet x)

-- A cover within the limit, such that no cover within the limit adds fewer addresses, and none that adds as few has
-- fewer networks.
-- Example: with the limit 2 it is 10.0.0.0/30, 10.0.0.8/32, which adds two addresses. Any /28 or larger network of a
-- cover adds at least 13.
pub record IsBestCover (limit : ℕ) (InSet IsForbidden : Address → Type 0) (networks : List Network) : Type 0 where
  pub cover : IsCoverWithin limit InSet IsForbidden networks
  -- the number of addresses that it adds
  pub added : ℕ
  pub are_added : IsCountOf (IsAdded InSet networks) added
  pub fewest_added : (others : List Network) (more : ℕ) → IsCoverWithin limit InSet IsForbidden others
      → IsCountOf (IsAdded InSet others) more → added ≤ more
  pub fewest_networks : (others : List Network) → IsCoverWithin limit InSet IsForbidden others
      → IsCountOf (IsAdded InSet others) added → length networks ≤ length others

-- Some list covers the set within the limit.
-- Example: not with the limit 1 if 10.0.0.1 is forbidden; not with any limit if 10.0.0.3 is forbidden.
abbrev pub HasCoverWithin : ℕ → (Address → Type 0) → (Address → Type 0) → Type 0
HasCoverWithin limit InSet IsForbidden = (networks : List Network) × IsCoverWithin limit InSet IsForbidden networks

-- A list that covers every address of the set and no forbidden address, and adds at most `spare` addresses: `added`.
-- Example: 10.0.0.0/30, 10.0.0.8/32 with a spare of two addresses; for a spare of one, it adds too many.
pub record IsCoverAdding (spare : ℕ) (InSet IsForbidden : Address → Type 0) (networks : List Network) (added : ℕ)
    : Type 0 where
  pub valid : All IsNetwork networks
  pub covers : (x : Address) → InSet x → IsCoveredBy networks x
  pub avoids : (x : Address) → IsCoveredBy networks x → ¬ (IsForbidden x)
  pub are_added : IsCountOf (IsAdded InSet networks) added
  pub few : added ≤ spare

-- A cover that adds at most `spare` addresses, such that no cover that adds so few has fewer networks, and none with as
-- few networks adds fewer addresses.
-- Example: with a spare of 12 it is 10.0.0.0/30, 10.0.0.8/32, and with a spare of 13 it is 10.0.0.0/28.
pub record IsFewestCover (spare : ℕ) (InSet IsForbidden : Address → Type 0) (networks : List Network) : Type 0 where
  pub added : ℕ
  pub cover : IsCoverAdding spare InSet IsForbidden networks added
  pub fewest_networks : (others : List Network) (more : ℕ) → IsCoverAdding spare InSet IsForbidden others more
      → length networks ≤ length others
  pub fewest_added : (others : List Network) (more : ℕ) → IsCoverAdding spare InSet IsForbidden others more
      → length others ≤ length networks → added ≤ more

-- Some list covers the set and adds at most `spare` addresses. The networks of the set add none, so they are such a
-- list unless an address of the set is forbidden.
-- Example: with the spare 0, 10.0.0.0/32, 10.0.0.3/32, 10.0.0.8/32. If 10.0.0.3 is forbidden, no spare suffices.
abbrev pub HasCoverAdding : ℕ → (Address → Type 0) → (Address → Type 0) → Type 0
HasCoverAdding spare InSet IsForbidden =
    (networks : List Network) × (added : ℕ) × IsCoverAdding spare InSet IsForbidden networks added
