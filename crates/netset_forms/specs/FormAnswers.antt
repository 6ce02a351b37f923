-- The results of operations, and of lists of rules, in any form.
use Rattle.std.specs.Prelude.{◌↔◌, ℕ, Bool, true, false, IsTrue, List, []}
use Rattle.ipnet_base.specs.Address.{Address}
use Rattle.ipnet.specs.declared.parser.Grammar.{Grammar}
use Rattle.ipnet_rules.specs.declared.rules.Action.{Action}
use Rattle.ipnet_rules.specs.declared.rules.Rule.{Rule}
use Rattle.netset_lib.specs.declared.operation.Combination.{Combination}
use Rattle.netset_lib.specs.Combinations.{HasFamily, IsInCombined}
use Rattle.netset_lib.specs.RuleAnswers.{IsPermittedBy}
use Rattle.netset_lib.specs.RuleLines.{RuleContents, IsRuleList}
use Rattle.netset_forms.specs.declared.form.FormRequest.{FormRequest}
use Rattle.netset_forms.specs.Forms.{IsAskedText, IsOfFamilies}

-- The text is the operation's result as it is asked for.
-- Example: the difference of 10.0.0.0/30 and 10.0.0.3, as ranges, is `10.0.0.0-10.0.0.2`.
abbrev pub IsFormAnswer : Combination → FormRequest → List ℕ → Type 0
IsFormAnswer combination form text = HasFamily combination × IsAskedText form (IsInCombined combination) text

-- No line of the list of rules is refused, and the text is the addresses that the rules permit, as it is asked for.
pub record IsPermittedForm (default : Action) (form : FormRequest) (grammar : Grammar) (bytes text : List ℕ) : Type 0
  where
    pub contents : RuleContents
    pub read : IsRuleList grammar bytes contents []
    pub right : IsAskedText form (IsPermittedBy contents.rules default) text

-- The set has an address of the families that are asked for, or none is needed.
-- Example: for `Ipv6` and a needed address, fd00::/8 is enough, and 10.0.0.0/8 is not.
abbrev pub IsEnough : (needs_address : Bool) → FormRequest → (Address → Type 0) → Type 0
IsEnough true r InSet = (x : Address) × IsOfFamilies r.families InSet x
IsEnough false r InSet = Unit {0}

-- The command succeeds if and only if the set is enough.
abbrev pub IsEnoughIf : (needs_address : Bool) → FormRequest → (Address → Type 0) → Bool → Type 0
IsEnoughIf needs_address r InSet succeeded = IsTrue succeeded ↔ IsEnough needs_address r InSet

-- The first rules permit the address, and the second do not. Both have one default.
-- Example: 10.1.0.0 for `permit 10.0.0.0/8` and `permit 10.0.0.0/16`, and for `permit any` and `deny 10.0.0.0/8`.
abbrev pub IsNewlyPermitted : (rules except : List Rule) → Action → Address → Type 0
IsNewlyPermitted rules except default x = IsPermittedBy rules default x × ¬ (IsPermittedBy except default x)

-- No line of the two lists of rules is refused, and the text is the addresses that the first permits and the second
-- does not, as it is asked for.
pub record IsNewlyPermittedForm (default : Action) (form : FormRequest) (grammar : Grammar)
    (bytes except text : List ℕ) : Type 0 where
  pub contents : RuleContents
  pub read : IsRuleList grammar bytes contents []
  pub others : RuleContents
  pub others_read : IsRuleList grammar except others []
  pub right : IsAskedText form (IsNewlyPermitted contents.rules others.rules default) text
