-- The sets of all lists that were read.
use Rattle.std.specs.Prelude.{ℕ, List, []}
use Rattle.ipnet.specs.declared.parser.Grammar.{Grammar}
use Rattle.ipnet_sets.specs.declared.set.IpSet.{IpSet}
use Rattle.netset_lib.specs.Answers.{AreListsRead}
use Rattle.ipnet_lists.specs.Lists.{ListEntry}
use Rattle.netset_lib.specs.ListSets.{HaveMembers}

-- No line of the lists is refused, and each set has the addresses of the list at its place.
-- Example: for the lists `10.0.0.0/31`, an empty list, and `10.0.0.1`, the sets are 10.0.0.0 and 10.0.0.1, no address,
-- and 10.0.0.1.
pub record AreSetsOf (grammar : Grammar) (lists : List (List ℕ)) (sets : List IpSet) : Type 0 where
  pub entries : List (List ListEntry)
  pub read : AreListsRead grammar 0 lists entries []
  pub of_each : HaveMembers sets entries
