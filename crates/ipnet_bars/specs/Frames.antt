-- Frames: the network that a picture shows.
use Rattle.std.specs.Prelude.{◌⊎◌}
use Rattle.ipnet_base.specs.Address.{Family, IPv4, IPv6, Address}
use Rattle.ipnet_base.specs.Network.{Network, IsTruncationOf}
use Rattle.ipnet.specs.NetworkOf.{ip_network}
use Rattle.ipnet_sets.specs.Supernets.{IsSmallestAround}
use Rattle.ipnet_bars.specs.declared.frame.Frame.{Frame}
use Rattle.ipnet_bars.specs.declared.frame.Frame.TheVariants.{Named, Ipv6, FirstFamily}
use Rattle.ipnet_sets.specs.Parts.{IsInPart}
use Rattle.ipnet_bars.specs.Parts.{HasNone}

-- The network of all addresses of a family: 0.0.0.0/0 or ::/0.
abbrev pub all_of : Family → Network
all_of f = record { family = f; number = 0; prefix_len = 0 }

-- The smallest network that contains all addresses of the set in this family.
-- Example: for IPv4, 10.20.0.0/21 for 10.20.3.0 to 10.20.4.9 and ::1.
abbrev pub IsFrameOf : Family → (Address → Type 0) → Network → Type 0
IsFrameOf f InSet n = IsSmallestAround (IsInPart InSet (all_of f)) n

-- The network that a picture of the set shows: the network that is named, without host bits, or the smallest around all
-- addresses of a family.
-- Example: for 10.20.3.0 to 10.20.4.9 and ::1, `FirstFamily` is 10.20.0.0/21, and `Ipv6` is ::1/128.
abbrev pub IsFrame : Frame → (Address → Type 0) → Network → Type 0
IsFrame (Named network) InSet n = IsTruncationOf n (ip_network network)
IsFrame Ipv6 InSet n = IsFrameOf IPv6 InSet n
IsFrame FirstFamily InSet n = IsFrameOf IPv4 InSet n ⊎ (HasNone InSet (all_of IPv4) × IsFrameOf IPv6 InSet n)

-- The set has no address around which to draw a frame.
abbrev pub HasNoFrame : Frame → (Address → Type 0) → Type 0
HasNoFrame (Named network) InSet = ⊥
HasNoFrame Ipv6 InSet = HasNone InSet (all_of IPv6)
HasNoFrame FirstFamily InSet = HasNone InSet (all_of IPv4) × HasNone InSet (all_of IPv6)
