-- A list of which all bytes are known.
use Rattle.std.specs.Prelude.{ℕ, List}
use Rattle.ipnet.specs.declared.parser.Grammar.{Grammar}
use Rattle.ipnet_sets.specs.declared.set.IpSet.{IpSet}
use Rattle.ipnet_sets.specs.Members.{IsMember}
use Rattle.ipnet_lists.specs.Lists.{ListEntry, Refusal, IsListRead, HaveAddresses}
use Rattle.ipnet_lists.specs.RefusedLines.{RefusedLines, AreRefused}

-- The set has exactly the addresses of the entries of the list, and these are its refused lines.
-- Example: of `10.0.0.1\nx\n` the set is 10.0.0.1, and line 2 is refused.
pub record IsReadList (grammar : Grammar) (bytes : List ℕ) (set : IpSet) (refused : RefusedLines) : Type 0 where
  pub entries : List ListEntry
  pub refusals : List Refusal
  pub read : IsListRead grammar 0 bytes entries refusals
  pub addresses : HaveAddresses (IsMember set) entries
  pub kept : AreRefused refused refusals

-- Something was made of the entries of the list, and these are its refused lines.
pub record IsMadeList (grammar : Grammar) (bytes : List ℕ) (IsMade : List ListEntry → Type 0) (refused : RefusedLines)
    : Type 0 where
  pub entries : List ListEntry
  pub refusals : List Refusal
  pub read : IsListRead grammar 0 bytes entries refusals
  pub made : IsMade entries
  pub kept : AreRefused refused refusals
