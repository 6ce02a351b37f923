-- The networks of a plan. Only private contracts cite these.
use Rattle.std.specs.Prelude.{◌≡◌, ℕ, zero, suc, ⊤, ◌+◌, ◌-◌, ◌<◌, ◌≤◌, List, [], ◌∷◌, ◌++◌, length, get_or}
use Rattle.ipnet_base.specs.Address.{Address}
use Rattle.ipnet_base.specs.Network.{Network, InBlock, IsSubnetOf, IsTruncated}
use Rattle.ipnet.specs.NetworkOf.{ip_network}
use Rattle.ipnet_shortest.specs.declared.plan.Plan.{Plan}
use Rattle.ipnet_shortest.specs.declared.plan.Plan.TheVariants.{One, OneOr', Both'}

-- The number of indexes of the plan.
abbrev pub size_of : Plan → ℕ
size_of (One network) = 1
size_of (OneOr' network at rest) = 1 + size_of rest
size_of (Both' shares at first on second) = length shares.items

-- The networks for the index.
abbrev pub networks_of : Plan → ℕ → List Network
networks_of (One network) index = ip_network network ∷ []
networks_of (OneOr' network at rest) zero = ip_network network ∷ []
networks_of (OneOr' network at rest) (suc index) = networks_of rest index
networks_of (Both' shares at first on second) index =
    networks_of first (get_or shares.items index 0) ++ networks_of second (index - get_or shares.items index 0)

-- The shares are indexes of both plans.
pub record AreShares (shares : List ℕ) (first second : ℕ) : Type 0 where
  pub within : (i : ℕ) → i < length shares → get_or shares i 0 ≤ i
  pub in_first : (i : ℕ) → i < length shares → get_or shares i 0 < first
  pub in_second : (i : ℕ) → i < length shares → i - get_or shares i 0 < second

-- All shares of the plan are indexes of its plans.
abbrev pub IsSound : Plan → Type 0
IsSound (One network) = ⊤
IsSound (OneOr' network at rest) = IsSound rest
IsSound (Both' shares at first on second) =
    IsSound first × IsSound second × AreShares shares.items (size_of first) (size_of second)

-- Each address of the first network is before each address of the second, in the same family.
abbrev pub IsLeftOf : Network → Network → Type 0
IsLeftOf n k = (x y : Address) → InBlock n x → InBlock k y → (x.family ≡ y.family) × (x.number < y.number)

-- Two networks in another network, one before the other.
pub record AreHalvesOf (first second around : Network) : Type 0 where
  pub first_within : IsSubnetOf first around
  pub second_within : IsSubnetOf second around
  pub left : IsLeftOf first second

-- The networks of the plan are in the network, without host bits and in order.
abbrev pub IsOrderly : Plan → Network → Type 0
IsOrderly (One network) around = IsTruncated (ip_network network) × IsSubnetOf (ip_network network) around
IsOrderly (OneOr' network at rest) around =
    IsTruncated (ip_network network) × IsSubnetOf (ip_network network) around × IsOrderly rest around
IsOrderly (Both' shares at first on second) around = (l : Network) × (r : Network) × AreHalvesOf l r around
    × IsOrderly first l × IsOrderly second r
