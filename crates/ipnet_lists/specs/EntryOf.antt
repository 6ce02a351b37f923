-- A value of `Entry` as contracts see it: the range that it represents, and the texts that are parsed as it.
use Rattle.std.specs.Prelude.{ℕ, List}
use Rattle.std.specs.Net.Addr.{ipv4_bits, ipv6_bits}
use Rattle.ipnet_base.specs.Address.{IPv4, IPv6, ip_address, ipv4_address, ipv6_address}
use Rattle.ipnet_base.specs.Ranges.{AddressRange}
use Rattle.ipnet.specs.declared.parser.Grammar.{Grammar}
use Rattle.ipnet.specs.NetworkOf.{ip_network}
use Rattle.ipnet_sets.specs.SetRanges.{range_of}
use Rattle.ipnet_lists.specs.declared.entry.Entry.{Entry}
use Rattle.ipnet_lists.specs.declared.entry.Entry.TheVariants.{Network, Address, Ipv4Range, Ipv6Range}
use Rattle.ipnet_lists.specs.Entries.{block_range, IsAddressText, IsNetworkOrMasked, JoinsAddresses}

-- The range that the entry represents.
abbrev pub entry_range : Entry → AddressRange
entry_range (Network n) = block_range (ip_network n)
entry_range (Address a) = range_of (ip_address a).family (ip_address a).number (ip_address a).number
entry_range (Ipv4Range first last) = range_of IPv4 (ipv4_bits first) (ipv4_bits last)
entry_range (Ipv6Range first last) = range_of IPv6 (ipv6_bits first) (ipv6_bits last)

-- The text is this entry. Example: `10.0.0.1/32`, `10.0.0.1` and `10.0.0.1-10.0.0.1` have the same range, and are a
-- `Network`, an `Address` and an `Ipv4Range`.
abbrev pub IsWrittenAs : Grammar → List ℕ → Entry → Type 0
IsWrittenAs grammar text (Network n) = IsNetworkOrMasked grammar text (ip_network n)
IsWrittenAs grammar text (Address a) = IsAddressText grammar text (ip_address a)
IsWrittenAs grammar text (Ipv4Range first last) = JoinsAddresses grammar text (ipv4_address first) (ipv4_address last)
IsWrittenAs grammar text (Ipv6Range first last) = JoinsAddresses grammar text (ipv6_address first) (ipv6_address last)
