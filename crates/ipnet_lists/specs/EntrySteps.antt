-- The private steps of parsing an entry.
-- Only private contracts use these.
use Rattle.ipnet_base.specs.Address.{ipv4_address, ipv6_address}
use Rattle.ipnet_base.specs.Address as Addresses
use Rattle.ipnet_lists.specs.declared.entry.Entry.{Entry}
use Rattle.ipnet_lists.specs.declared.entry.Entry.TheVariants.{Network, Address, Ipv4Range, Ipv6Range}

-- The entry is a range, and its ends have these two properties.
abbrev pub HasEnds : (First Last : Addresses.Address → Type 0) → Entry → Type 0
HasEnds First Last (Network n) = ⊥
HasEnds First Last (Address a) = ⊥
HasEnds First Last (Ipv4Range first last) = First (ipv4_address first) × Last (ipv4_address last)
HasEnds First Last (Ipv6Range first last) = First (ipv6_address first) × Last (ipv6_address last)
