-- Rules that decide no address, because earlier rules match all of theirs.
-- In the examples, rule 0 is `deny 10.0.1.128/25`, rule 1 `permit 10.0.0.0/23`, and rule 2 `permit 10.0.1.192/26`.
use Rattle.std.specs.Prelude.{◌≡◌, ℕ, ◌<◌, ◌↔◌, List, length, slice_index_or, Any, All, AllPairs, Contains}
use Rattle.ipnet_base.specs.Address.{Address}
use Rattle.ipnet_rules.specs.declared.rules.Rule.{Rule}
use Rattle.ipnet_rules.specs.declared.unreached.Unreached.{Unreached}
use Rattle.ipnet_rules.specs.Rules.{Matches}

-- The rule at this index of the list, counted from 0, matches the address.
-- `slice_index_or rules place rule ≡ rule` says that the list has the rule at this index.
-- Example: rules 0, 1 and 2 match 10.0.1.200.
abbrev pub MatchesAt : List Rule → ℕ → Address → Type 0
MatchesAt rules place x = (rule : Rule) × (place < length rules) × (slice_index_or rules place rule ≡ rule)
    × Matches rule x

-- The rule at this index decides on the address: it is the first that matches it.
-- Example: rule 0 decides on 10.0.1.200, and rule 1 on 10.0.1.5.
pub record Decides (rules : List Rule) (place : ℕ) (x : Address) : Type 0 where
  pub matches : MatchesAt rules place x
  pub first : (earlier : ℕ) → earlier < place → ¬ (MatchesAt rules earlier x)

-- The rule at this index decides on no address. Example: rule 2, because rule 0 matches all of its addresses.
pub record IsUnreached (rules : List Rule) (place : ℕ) : Type 0 where
  pub within : place < length rules
  pub never : (x : Address) → ¬ (Decides rules place x)

-- The earlier rules that decide on addresses of the rule at this index, ascending and each once. The last line reads:
-- some address x is matched by the rule at the index, and the earlier rule decides on it. Example: only 0 for rule 2.
pub record AreDeciders (rules : List Rule) (place : ℕ) (deciders : List ℕ) : Type 0 where
  pub ascending : AllPairs (λ i j. i < j) deciders
  pub members : (earlier : ℕ) → Contains deciders earlier
      ↔ ((earlier < place) × (x : Address) × MatchesAt rules place x × Decides rules earlier x)

-- The rule at this place decides on no address, and these are the rules that decide on its addresses.
pub record IsUnreachedAt (rules : List Rule) (place : ℕ) (u : Unreached) : Type 0 where
  pub of_place : u.rule ≡ place
  pub unreached : IsUnreached rules place
  pub deciders : AreDeciders rules place u.deciders.items

-- All rules of the list that decide on no address, in order, each with the rules that decide on its addresses.
-- Example: rule 2, with rule 0.
pub record AreUnreached (rules : List Rule) (found : List Unreached) : Type 0 where
  pub ascending : AllPairs (λ u v. u.rule < v.rule) found
  pub members : (place : ℕ) → Any (λ u. u.rule ≡ place) found ↔ IsUnreached rules place
  pub deciders : All (λ u. AreDeciders rules u.rule u.deciders.items) found
