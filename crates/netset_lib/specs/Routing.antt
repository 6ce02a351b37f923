-- The private steps of finding routes.
-- Only private contracts use these.
use Rattle.std.specs.Prelude.{◌⊎◌, ◌↔◌, ℕ, List, [], ◌∷◌, ◌++◌, codes, map, Contains, Option, Some, None}
use Rattle.ipnet_base.specs.Address.{address_at}
use Rattle.ipnet_base.specs.Network.{Network, InBlock, truncation}
use Rattle.ipnet_base.specs.Blocks.{IsMaximal}
use Rattle.ipnet_base.specs.Ranges.{AddressRange}
use Rattle.ipnet.specs.CanonicalTexts.{canonical_text}
use Rattle.ipnet.specs.NetworkOf.{ip_network}
use Rattle.ipnet.specs.declared.net.IpNet.{IpNet}
use Rattle.ipnet_routes.specs.Routes.{networks_of}
use Rattle.ipnet_routes.specs.RoutesOf.{routes_of}
use Rattle.ipnet_sets.specs.SetRanges.{IsInRange}
use Rattle.ipnet_routes.specs.declared.routes.RouteTable.{RouteTable}
use Rattle.ipnet_lists.specs.Lists.{ListEntry}
use Rattle.netset_lib.specs.RouteAnswers.{IsTableNetwork, IsLongest, HaveNone}

-- One of the networks, truncated.
abbrev pub IsTruncatedOne : List Network → Network → Type 0
IsTruncatedOne networks n = Contains (map truncation networks) n

-- The new networks are the old ones and the maximal blocks of one more range.
abbrev pub AddsMaximal : List Network → AddressRange → List Network → Type 0
AddsMaximal old range new =
    (n : Network) → IsTruncatedOne new n ↔ (IsTruncatedOne old n ⊎ IsMaximal (IsInRange range) 0 n)

-- A network has this property if and only if it is in the table of these entries.
abbrev pub AreTableNetworks : (Network → Type 0) → List ListEntry → Type 0
AreTableNetworks IsOne entries = (n : Network) → IsOne n ↔ IsTableNetwork entries n

-- The network is in the table.
abbrev pub InTable : {V : Type 0} → RouteTable V → Network → Type 0
InTable table n = Contains (networks_of (routes_of table)) n

-- The network's block contains both ends of the range, and so all of it if it has an address.
abbrev pub HasEnds : AddressRange → Network → Type 0
HasEnds range n = InBlock n (address_at range.family range.start) × InBlock n (address_at range.family range.end)

-- The network's block contains both ends of the entry.
abbrev pub HoldsEnds : ListEntry → Network → Type 0
HoldsEnds e = HasEnds e.range

-- The longest network with this property that contains the entry, or `None` if there is none.
abbrev pub IsLongestIfAny : (Network → Type 0) → (Network → Type 0) → Option IpNet → Type 0
IsLongestIfAny IsOne Holding None = HaveNone IsOne Holding
IsLongestIfAny IsOne Holding (Some network) = IsLongest IsOne Holding (ip_network network)

-- The line of an entry, with this network or none.
abbrev pub route_line : List ℕ → Option IpNet → List ℕ
route_line text None = text ++ codes " -" ++ 10 ∷ []
route_line text (Some network) = text ++ codes " " ++ canonical_text (ip_network network) ++ 10 ∷ []
