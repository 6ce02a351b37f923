-- Two lists of rules of which the first permits what the second does not: the set, and why there is none.
use Rattle.std.specs.Prelude.{◌≡◌, ◌↔◌, ℕ, List, Option, codes, drop}
use Rattle.ipnet_base.specs.Address.{Address}
use Rattle.ipnet_lists.specs.Lists.{RefusalFor}
use Rattle.ipnet_lists.specs.declared.content_line.ListFailure.TheVariants.{Refused}
use Rattle.ipnet_lists.specs.Names.{Names}
use Rattle.ipnet_lists.specs.Reports.{OfNew, IsReport, IsReportBegun}
use Rattle.ipnet_rules.specs.declared.rules.Action.{Action}
use Rattle.ipnet_rules.specs.declared.rules.Rule.{Rule}
use Rattle.ipnet_sets.specs.declared.set.IpSet.{IpSet}
use Rattle.ipnet_sets.specs.Members.{IsMember}
use Rattle.netset_forms.specs.declared.newly_permitted.RulePairFailure.{RulePairFailure}
use Rattle.netset_forms.specs.declared.newly_permitted.RulePairFailure.TheVariants.{First, Second, Memory}
use Rattle.netset_forms.specs.FormAnswers.{IsNewlyPermitted}
use Rattle.netset_lib.specs.Reasons.{Explains, rule_reason}
use Rattle.netset_lib.specs.RuleAnswers.{IsRuleFailure}
use Rattle.netset_lib.specs.Reports.{memory_line}
use Rattle.netset_lib.specs.declared.rule_cause.RuleCause.{RuleCause}
use Rattle.netset_lib.specs.declared.rule_list.RuleList.{RuleList}

-- The set has the addresses that the first rules permit and the second do not.
abbrev pub IsNewlyPermittedSet : Action → (rules except : List Rule) → IpSet → Type 0
IsNewlyPermittedSet default rules except set =
    (x : Address) → IsMember set x ↔ IsNewlyPermitted rules except default x

-- No line of the list is refused.
abbrev pub HasNoRefusedRule : RuleList → Type 0
HasNoRefusedRule list = list.refused.count ≡ 0

-- Why there is no such set: the first list has refused lines, or only the second has. If the first has none, memory may
-- run out; when it does is not specified.
abbrev pub IsPairFailure : (list except : RuleList) → RulePairFailure → Type 0
IsPairFailure list except (First lines) = IsRuleFailure list (Refused lines)
IsPairFailure list except (Second lines) = HasNoRefusedRule list × IsRuleFailure except (Refused lines)
IsPairFailure list except Memory = HasNoRefusedRule list

-- The words for a line of a list of rules.
abbrev pub ExplainsRule : RuleCause → List ℕ → List ℕ → Option (List ℕ) → Type 0
ExplainsRule = Explains (codes "not a rule") rule_reason

-- The text reports why two lists of rules cannot be compared. `IsFirst` says so of the kept refused lines of the first
-- list and the number of the others, and `IsSecond` of the same for the second list.
abbrev pub IsPairText : (IsFirst IsSecond : List (RefusalFor RuleCause) → ℕ → List ℕ → Type 0) → RulePairFailure
    → List ℕ → Type 0
IsPairText IsFirst IsSecond (First lines) text = OfNew IsFirst lines 0 0 text
IsPairText IsFirst IsSecond (Second lines) text = OfNew IsSecond lines 0 0 text
IsPairText IsFirst IsSecond Memory text = text ≡ memory_line

-- The text is the report of why two lists of rules cannot be compared. The first name is of the first list, and the
-- second of the second.
-- Example: `old:1: not a rule: allow 10.0.0.1 (a rule begins with permit or deny)`.
abbrev pub IsPairReport : RulePairFailure → Names → List ℕ → Type 0
IsPairReport failure names text =
    IsPairText (IsReport ExplainsRule names) (IsReport ExplainsRule (drop 1 names)) failure text

-- The text is the first lines of that report, perhaps all.
abbrev pub IsPairBegun : RulePairFailure → Names → List ℕ → Type 0
IsPairBegun failure names text =
    IsPairText (IsReportBegun ExplainsRule names) (IsReportBegun ExplainsRule (drop 1 names)) failure text
