-- The subnets of a network, and its hosts, as text.
use Rattle.std.specs.Prelude.{◌≡◌, ◌⊎◌, ◌<◌, ℕ, List, [], ◌∷◌, ◌++◌}
use Rattle.ipnet_base.specs.Address.{Address, width}
use Rattle.ipnet_base.specs.Network.{Network}
use Rattle.ipnet_base.specs.Ranges.{AddressRange, addresses_of}
use Rattle.ipnet.specs.CanonicalTexts.{address_text}
use Rattle.ipnet.specs.NetworkParts.{AreSubnetsOfLength, IsHostRange}
use Rattle.ipnet_text.specs.LineTexts.{text_of_lines}

-- The canonical texts of the addresses, in order, each followed by "\n" (10).
abbrev pub text_of_addresses : List Address → List ℕ
text_of_addresses [] = []
text_of_addresses (a ∷ addresses) = address_text a.family a.number ++ 10 ∷ [] ++ text_of_addresses addresses

-- The text is the subnets of the network with this prefix length, one a line, ascending.
-- Example: `10.0.0.0/25`, `10.0.0.128/25` for 10.0.0.9/24 and 25.
pub record IsSplitText (n : Network) (prefix_len : ℕ) (text : List ℕ) : Type 0 where
  pub networks : List Network
  pub subnets : AreSubnetsOfLength n prefix_len networks
  pub spelled : text ≡ text_of_lines networks

-- The network has no subnet with this prefix length: it is below the length of the network, or above the width.
abbrev pub HasNoSplit : Network → ℕ → Type 0
HasNoSplit n prefix_len = (prefix_len < n.prefix_len) ⊎ (width n.family < prefix_len)

-- The text is the hosts of the network, one a line, ascending.
-- Example: `10.0.0.1`, `10.0.0.2` for 10.0.0.0/30; `10.0.0.0`, `10.0.0.1` for 10.0.0.0/31.
pub record IsHostsText (n : Network) (text : List ℕ) : Type 0 where
  pub hosts : AddressRange
  pub range : IsHostRange n hosts
  pub spelled : text ≡ text_of_addresses (addresses_of hosts)
