-- Entries that are chosen by their family and their prefix length.
use Rattle.std.specs.Prelude.{◌≡◌, ◌≤◌, ◌↔◌, ℕ, Option, Some, None}
use Rattle.ipnet_base.specs.Address.{Family, IPv4, IPv6, Address}
use Rattle.ipnet_base.specs.Network.{Network, IsNetwork, InBlock}
use Rattle.ipnet_base.specs.Ranges.{AddressRange}
use Rattle.ipnet_sets.specs.SetRanges.{IsInRange}
use Rattle.netset_lib.specs.declared.operation.Families.{Families}
use Rattle.netset_lib.specs.declared.operation.Families.TheVariants.{Named, Ipv4, Ipv6, Both}
use Rattle.netset_entries.specs.declared.choice.EntryChoice.{EntryChoice}
use Rattle.netset_entries.specs.declared.choice.LengthBounds.{LengthBounds}

-- The range has exactly the addresses of a network with this prefix length.
-- Example: 10.0.0.0 to 10.0.0.255 has the length 24, 10.0.0.1 has 32, and 10.0.0.0 to 10.0.0.2 has none.
pub record HasPrefixLen (range : AddressRange) (len : ℕ) : Type 0 where
  pub network : Network
  pub is_network : IsNetwork network
  pub same : (x : Address) → IsInRange range x ↔ InBlock network x
  pub is_len : network.prefix_len ≡ len

-- The prefix length is in these bounds; no length is asked for if there are none.
-- Example: 10.0.0.0/8 is in 8 to 24, and 10.0.0.0 to 10.0.0.2 is in no bounds.
abbrev pub IsInBounds : Option LengthBounds → AddressRange → Type 0
IsInBounds None range = Unit {0}
IsInBounds (Some bounds) range =
    (len : ℕ) × HasPrefixLen range len × (bounds.least ≤ len) × (len ≤ bounds.most)

-- The family is one of those that are chosen.
abbrev pub IsChosenFamily : Families → Family → Type 0
IsChosenFamily Named f = Unit {0}
IsChosenFamily Ipv4 f = f ≡ IPv4
IsChosenFamily Ipv6 f = f ≡ IPv6
IsChosenFamily Both f = Unit {0}

-- The bounds of prefix lengths that are only for this family.
abbrev pub bounds_for : EntryChoice → Family → Option LengthBounds
bounds_for choice IPv4 = choice.ipv4_lengths
bounds_for choice IPv6 = choice.ipv6_lengths

-- The range is of a chosen family, in the bounds for both families, and in the bounds that are only for its own.
-- Example: with the bounds 24 to 32 for IPv4, 10.0.0.0/24 and fd00::/8 are chosen, and 10.0.0.0/8 is not.
pub record IsChosen (choice : EntryChoice) (range : AddressRange) : Type 0 where
  pub family : IsChosenFamily choice.families range.family
  pub bounds : IsInBounds choice.lengths range
  pub own_bounds : IsInBounds (bounds_for choice range.family) range
