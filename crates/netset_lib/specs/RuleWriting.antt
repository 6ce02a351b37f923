-- The unreached rules of a list, found and written one after the other.
-- Only private contracts use these.
use Rattle.std.specs.Prelude.{◌≡◌, ℕ, ◌<◌, ◌⊎◌, Bool, true, false, List, ◌++◌, length, map}
use Rattle.ipnet_rules.specs.declared.rules.Rule.{Rule}
use Rattle.ipnet_rules.specs.declared.unreached.Unreached.{Unreached}
use Rattle.ipnet_rules.specs.Decisions.{AreDecisions}
use Rattle.ipnet_rules.specs.UnreachedRules.{IsUnreached, IsUnreachedAt}
use Rattle.ipnet_lists.specs.ContentLines.{ContentLine}
use Rattle.netset_lib.specs.RuleAnswers.{line_at, covering_lines}
use Rattle.netset_lib.specs.declared.rule_writing.Prepared.{Prepared}
use Rattle.netset_lib.specs.RuleContentsOf.{line_of_rule}
use Rattle.netset_lib.specs.RuleLines.{RuleContents}

-- The rule at this place decides on an address; or it does not, and the rules that decide in its place are known.
abbrev pub IsAnswered : List Rule → ℕ → Type 0
IsAnswered rules place = ¬ (IsUnreached rules place) ⊎ ((u : Unreached) × IsUnreachedAt rules place u)

-- It is known whether each rule below the place decides on an address; `some` says whether one of them does not.
pub record AreAnswered (rules : List Rule) (place : ℕ) (some : Bool) : Type 0 where
  pub each : (i : ℕ) → i < place → IsAnswered rules i
  pub found : some ≡ true → (i : ℕ) × IsUnreached rules i
  pub none : some ≡ false → (i : ℕ) → i < place → ¬ (IsUnreached rules i)

-- The line of an unreached rule, and the lines of the rules that decide on its addresses.
abbrev pub rule_lines : List ContentLine → Unreached → List ℕ
rule_lines lines u = line_at lines u.rule ++ covering_lines lines u.deciders.items

-- The rules and their lines.
abbrev pub contents_in : Prepared → RuleContents
contents_in p = record { rules = p.rules.items; lines = map line_of_rule p.lines.items }

-- The rules of these contents, what they decide, and whether one of them decides on no address.
pub record IsPrepared (contents : RuleContents) (p : Prepared) : Type 0 where
  pub of_contents : contents_in p ≡ contents
  pub decided : AreDecisions p.rules.items p.decisions
  pub answered : AreAnswered p.rules.items (length p.rules.items) p.has_unreached
