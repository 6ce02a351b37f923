-- The private steps of finding the cause if a text is not an entry.
-- Only private contracts use these.
use Rattle.std.specs.Prelude.{ℕ, List}
use Rattle.std.specs.declared.net.ip_addr.IpAddr.{IpAddr}
use Rattle.ipnet_base.specs.Address.{Address, IPv4, IPv6, ip_address}
use Rattle.ipnet.specs.declared.parser.Grammar.TheVariants.{Legacy}
use Rattle.ipnet_lists.specs.declared.cause_parts.Parts.{Parts}
use Rattle.ipnet_lists.specs.declared.cause_parts.Parts.TheVariants.{LongIpv4, LongIpv6, Backwards, Apart, Entries}
use Rattle.ipnet_lists.specs.declared.cause_parts.Parts.TheVariants.{TwoIpv4, EntryFirst, Ipv4First, Ipv6First}
use Rattle.ipnet_lists.specs.declared.cause_parts.Parts.TheVariants.{Bracketed, Quoted, Excluded, Unfinished}
use Rattle.ipnet_lists.specs.Causes.{IsTooLong, AreAddresses, AreBackwards, AreApart, AreEntries, AreIpv4}
use Rattle.ipnet_lists.specs.Causes.{IsEntryFirst, IsAddressFirst, IsEnclosed, IsExcluded, IsUnfinished}
use Rattle.ipnet_lists.specs.Entries.{IsAddressText, after_blanks, before_blanks}

-- The two addresses of a pair.
abbrev pub ends_of : IpAddr × IpAddr → Address × Address
ends_of pair = (ip_address pair.0, ip_address pair.1)

-- The texts of these two addresses, without the blanks between them and the cut.
abbrev pub WriteEnds : List ℕ → List ℕ → Address × Address → Type 0
WriteEnds front back pair =
    IsAddressText Legacy (before_blanks front) pair.0 × IsAddressText Legacy (after_blanks back) pair.1

-- The parts of a text before and after a byte are so.
abbrev pub ArePartsSo : Parts → List ℕ → List ℕ → Type 0
ArePartsSo LongIpv4 front back = IsTooLong IPv4 front back
ArePartsSo LongIpv6 front back = IsTooLong IPv6 front back
ArePartsSo Backwards front back = AreAddresses AreBackwards front back
ArePartsSo Apart front back = AreAddresses AreApart front back
ArePartsSo Entries front back = AreEntries front back
ArePartsSo TwoIpv4 front back = AreIpv4 front back
ArePartsSo EntryFirst front back = IsEntryFirst front back
ArePartsSo Ipv4First front back = IsAddressFirst IPv4 front back
ArePartsSo Ipv6First front back = IsAddressFirst IPv6 front back
ArePartsSo Bracketed front back = IsEnclosed 93 front back
ArePartsSo Quoted front back = IsEnclosed 34 front back
ArePartsSo Excluded front back = IsExcluded front back
ArePartsSo Unfinished front back = IsUnfinished front back
