-- The words of a report for each cause.
use Rattle.std.specs.Prelude.{ℕ, List, codes}
use Rattle.ipnet_lists.specs.declared.cause.Cause.{Cause}
use Rattle.ipnet_lists.specs.declared.cause.Cause.TheVariants as Causes

-- The words for a cause. Example: `the prefix length is above 32`.
abbrev pub cause_text : Cause → List ℕ
cause_text Causes.NulByte = codes "a NUL byte: is the file UTF-16?"
cause_text Causes.NotUtf8 = codes "not UTF-8"
cause_text Causes.CarriageReturn = codes "a carriage return: is the file damaged, or from an old Mac?"
cause_text Causes.LegacyAlone = codes "a leading zero, or a \"::\" that replaces no group: use --legacy to accept it"
cause_text Causes.LengthAbove32 = codes "the prefix length is above 32"
cause_text Causes.LengthAbove128 = codes "the prefix length is above 128"
cause_text Causes.EndsBeforeStart = codes "the range ends before it starts"
cause_text Causes.TwoFamilies = codes "the range has addresses of two families"
cause_text Causes.RangeOfNetworks = codes "a range of networks: write its first and its last address"
cause_text Causes.OtherDash = codes "a dash other than -: write - between the first and the last address"
cause_text Causes.NoLastAddress = codes "the range has no last address"
cause_text Causes.WildcardMask = codes "a wildcard mask, or a mask with gaps: write a prefix length, as in 10.0.0.0/8"
cause_text Causes.MaskAfterBlank = codes "a mask in a second word: write a prefix length, as in 10.0.0.0/8"
cause_text Causes.TwoEntries = codes "two entries in a line: write one a line, or # before a comment"
cause_text Causes.CommaFollows = codes "a comma after the entry: leave it out"
cause_text Causes.SemicolonFollows = codes "a semicolon after the entry: leave it out, or write a blank before it"
cause_text Causes.TextFollows = codes "text after the entry: write # before it"
cause_text Causes.InBrackets = codes "brackets: leave them out"
cause_text Causes.InQuotes = codes "quotation marks: leave them out"
cause_text Causes.Excluded = codes "an exception: subtract it with netset difference"
cause_text Causes.DashFirst = codes "a - before the entry: leave it out, or apply the changes with netset apply"
cause_text Causes.HasZone = codes "a zone: leave out % and what follows"
cause_text Causes.HasPort = codes "a port: leave out : and what follows"
cause_text Causes.NotFourNumbers = codes "an IPv4 address has four numbers from 0 to 255, as in 10.0.0.0/8"
cause_text Causes.HasStar = codes "a pattern with *: write a network, as in 10.0.0.0/8"
cause_text Causes.AllAddresses = codes "all addresses: write 0.0.0.0/0 and ::/0"
cause_text Causes.HostName = codes "a host name: write its addresses"
