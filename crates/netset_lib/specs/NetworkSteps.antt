-- The private steps of reading a network.
-- Only private contracts use this.
use Rattle.ipnet_lists.specs.declared.entry.Entry.{Entry}
use Rattle.ipnet_lists.specs.declared.entry.Entry.TheVariants.{Network, Address, Ipv4Range, Ipv6Range}

-- The entry is a range.
abbrev pub IsRange : Entry → Type 0
IsRange (Network n) = ⊥
IsRange (Address a) = ⊥
IsRange (Ipv4Range first last) = Unit {0}
IsRange (Ipv6Range first last) = Unit {0}
