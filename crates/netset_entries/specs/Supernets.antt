-- The smallest networks around the addresses of a set, and their text.
use Rattle.std.specs.Prelude.{◌≡◌, ℕ, List, [], ◌∷◌, ◌++◌, Option, Some, None}
use Rattle.ipnet_base.specs.Address.{Family, IPv4, IPv6, Address}
use Rattle.ipnet_base.specs.Network.{Network}
use Rattle.ipnet.specs.declared.net.IpNet.{IpNet}
use Rattle.ipnet.specs.NetworkOf.{ip_network}
use Rattle.ipnet_sets.specs.Supernets.{IsSmallestAround}
use Rattle.ipnet_text.specs.LineTexts.{text_of_lines}

-- The address is in the set and of this family.
abbrev pub IsOfFamily : (Address → Type 0) → Family → Address → Type 0
IsOfFamily InSet f x = (x.family ≡ f) × InSet x

-- The network, if there is one. Only private contracts use this.
abbrev pub found_network : Option IpNet → List Network
found_network None = []
found_network (Some n) = ip_network n ∷ []

-- The network is the smallest around the addresses of the family, and there is none if the set has no such address.
-- Example: `10.20.0.0/21` for IPv4 and the set of 10.20.3.0 to 10.20.4.9 and fd00::1; `fd00::1/128` for IPv6.
abbrev pub IsSupernetFor : (Address → Type 0) → Family → List Network → Type 0
IsSupernetFor InSet f [] = (x : Address) → ¬ (IsOfFamily InSet f x)
IsSupernetFor InSet f (n ∷ []) = IsSmallestAround (IsOfFamily InSet f) n
IsSupernetFor InSet f (n ∷ k ∷ others) = ⊥

-- The smallest network around the IPv4 addresses, and then the smallest around the IPv6 addresses.
pub record AreSupernets (InSet : Address → Type 0) (networks : List Network) : Type 0 where
  pub ipv4 : List Network
  pub ipv6 : List Network
  pub of_ipv4 : IsSupernetFor InSet IPv4 ipv4
  pub of_ipv6 : IsSupernetFor InSet IPv6 ipv6
  pub both : networks ≡ ipv4 ++ ipv6

-- The text has these networks, one a line.
pub record AreSupernetLines (InSet : Address → Type 0) (text : List ℕ) : Type 0 where
  pub networks : List Network
  pub smallest : AreSupernets InSet networks
  pub spelled : text ≡ text_of_lines networks
