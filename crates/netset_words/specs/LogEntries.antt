-- The entries in a line of a log. Here a netmask is an address.
use Rattle.std.specs.Prelude.{ℕ, List}
use Rattle.ipnet_base.specs.Ranges.{AddressRange}
use Rattle.ipnet.specs.declared.parser.Grammar.{Grammar}
use Rattle.netset_words.specs.declared.lines_request.LinesRequest.{LinesRequest}
use Rattle.netset_words.specs.Places.{IsPlace, HasNoPlace, IsRangeOf}
use Rattle.netset_words.specs.Words.{Word}

-- The word of a log is an entry with this range. Example: `192.0.2.7:443` is 192.0.2.7.
abbrev pub IsLogEntry : LinesRequest → Word → AddressRange → Type 0
IsLogEntry how w range =
    (place : List ℕ) × IsPlace how.grammar w place × IsRangeOf how.mapped how.grammar place range

-- The word is not an entry of a log.
abbrev pub IsNoEntryWord : Grammar → Word → Type 0
IsNoEntryWord = HasNoPlace
