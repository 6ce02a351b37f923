-- The queries on a list of rules, and the answers.
use Rattle.std.specs.Prelude.{◌≡◌, ◌≢◌, ◌↔◌, ℕ, zero, suc, Bool, true, false, List, [], ◌∷◌, ◌++◌, codes, decimal}
use Rattle.ipnet_base.specs.Address.{Address, IsAddress}
use Rattle.ipnet.specs.declared.parser.Grammar.{Grammar}
use Rattle.ipnet_rules.specs.declared.rules.Action.{Action}
use Rattle.ipnet_rules.specs.declared.rules.Action.TheVariants.{Permit}
use Rattle.ipnet_rules.specs.declared.rules.Rule.{Rule}
use Rattle.ipnet_rules.specs.declared.unreached.Unreached.{Unreached}
use Rattle.ipnet_rules.specs.Rules.{HasRuleVerdict}
use Rattle.ipnet_sets.specs.declared.set.IpSet.{IpSet}
use Rattle.ipnet_sets.specs.Members.{IsMember}
use Rattle.ipnet_rules.specs.UnreachedRules.{IsUnreached, AreUnreached}
use Rattle.ipnet_lists.specs.declared.content_line.ListFailure.{ListFailure}
use Rattle.ipnet_lists.specs.declared.content_line.ListFailure.TheVariants as Failures
use Rattle.netset_lib.specs.declared.rule_cause.RuleCause.{RuleCause}
use Rattle.netset_lib.specs.declared.rule_list.RuleList.{RuleList}
use Rattle.ipnet_lists.specs.ContentLines.{ContentLine}
use Rattle.netset_lib.specs.RuleContentsOf.{WasRuleListRead}
use Rattle.netset_lib.specs.RuleLines.{RuleContents, IsRuleList}

-- The addresses that the rules permit: the first rule that matches the address permits it; or no rule matches it, and
-- the default is to permit.
abbrev pub IsPermittedBy : List Rule → Action → Address → Type 0
IsPermittedBy rules default x = IsAddress x × HasRuleVerdict rules default x Permit

-- The number of a line and its text. Example: `line 4: permit 10.0.1.192/26`.
abbrev pub line_text : ContentLine → List ℕ
line_text l = codes "line " ++ decimal l.number ++ codes ": " ++ l.text ++ 10 ∷ []

-- The text of the item at this index, counted from 0, or nothing if there is none.
abbrev pub text_at : {X : Type 0} → (X → List ℕ) → List X → ℕ → List ℕ
text_at text_of [] index = []
text_at text_of (x ∷ items) zero = text_of x
text_at text_of (x ∷ items) (suc index) = text_at text_of items index

-- The text of the line at this index, or nothing if there is none.
abbrev pub line_at : List ContentLine → ℕ → List ℕ
line_at lines index = text_at line_text lines index

-- The lines at these indexes, each after two spaces.
abbrev pub covering_lines : List ContentLine → List ℕ → List ℕ
covering_lines lines [] = []
covering_lines lines (index ∷ indexes) = codes "  " ++ line_at lines index ++ covering_lines lines indexes

-- The line of each unreached rule, and after it the lines of the rules that decide on its addresses.
abbrev pub unreached_lines : List ContentLine → List Unreached → List ℕ
unreached_lines lines [] = []
unreached_lines lines (u ∷ found) =
    line_at lines u.rule ++ covering_lines lines u.deciders.items ++ unreached_lines lines found

-- The text has the rules that decide on no address, in order, each with the earlier rules that decide on its addresses.
-- Example: of `deny 10.0.0.0/8` and `permit 10.1.0.0/16`, the lines `line 2: permit 10.1.0.0/16` and
-- `  line 1: deny 10.0.0.0/8`.
pub record AreUnreachedLines (contents : RuleContents) (text : List ℕ) : Type 0 where
  pub found : List Unreached
  pub unreached : AreUnreached contents.rules found
  pub spelled : text ≡ unreached_lines contents.lines found

-- The text is the lines of the unreached rules of the list with these bytes. No line of the list is refused.
pub record IsUnreachedAnswer (grammar : Grammar) (bytes text : List ℕ) : Type 0 where
  pub contents : RuleContents
  pub read : IsRuleList grammar bytes contents []
  pub right : AreUnreachedLines contents text

-- The set has the addresses that the rules permit.
abbrev pub IsPermittedSet : Action → List Rule → IpSet → Type 0
IsPermittedSet default rules set = (x : Address) → IsMember set x ↔ IsPermittedBy rules default x

-- Why there is no answer. If lines are refused, the failure has those of the list. If no line is refused, memory ran
-- out; when it does is not specified.
abbrev pub IsRuleFailure : RuleList → ListFailure RuleCause → Type 0
IsRuleFailure list (Failures.Refused lines) = (list.refused.count ≢ 0) × (lines ≡ list.refused)
IsRuleFailure list Failures.Memory = list.refused.count ≡ 0

-- No line of the list is refused, and each of its rules decides on some address.
pub record AreAllReached (grammar : Grammar) (bytes : List ℕ) : Type 0 where
  pub contents : RuleContents
  pub read : IsRuleList grammar bytes contents []
  pub reached : (index : ℕ) → ¬ (IsUnreached contents.rules index)

-- No line of the list is refused, and one of its rules decides on no address.
pub record IsOneUnreached (grammar : Grammar) (bytes : List ℕ) : Type 0 where
  pub contents : RuleContents
  pub read : IsRuleList grammar bytes contents []
  pub index : ℕ
  pub unreached : IsUnreached contents.rules index

-- Whether each rule decides on some address.
abbrev pub IsReachedOutcome : Grammar → List ℕ → Bool → Type 0
IsReachedOutcome grammar bytes true = AreAllReached grammar bytes
IsReachedOutcome grammar bytes false = IsOneUnreached grammar bytes

-- The text is the answer of a list that was read, whatever its bytes are.
abbrev pub IsUnreachedText : RuleList → List ℕ → Type 0
IsUnreachedText list text = (grammar : Grammar) → (bytes : List ℕ) → WasRuleListRead grammar bytes list
    → IsUnreachedAnswer grammar bytes text

-- Whether each rule of a list that was read decides on some address.
abbrev pub AreReached : RuleList → Bool → Type 0
AreReached list reached = (grammar : Grammar) → (bytes : List ℕ) → WasRuleListRead grammar bytes list
    → IsReachedOutcome grammar bytes reached
