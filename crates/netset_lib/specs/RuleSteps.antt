-- The private steps of reading rules.
-- Only private contracts use these.
use Rattle.std.specs.Prelude.{◌≡◌, ◌≢◌, ℕ, List, [], ◌∷◌, ◌++◌, codes}
use Rattle.ipnet.specs.declared.parser.Grammar.{Grammar}
use Rattle.netset_lib.specs.declared.rule_cause.RuleCause.{RuleCause}
use Rattle.netset_lib.specs.declared.rule_cause.RuleCause.TheVariants.{UnknownWord, NoEntry, TwoEntries, BadEntry}
use Rattle.netset_lib.specs.declared.rule_cause.RuleCause.TheVariants.{NoHost, Netmask, EitherMask, NoMask}
use Rattle.ipnet_lists.specs.Causes.{IsNetmaskNumber, IsReportedCause}
use Rattle.ipnet_lists.specs.ContentLines.{ContentLine}
use Rattle.ipnet_lists.specs.Words.{leading_word}
use Rattle.ipnet_rules.specs.declared.rules.Rule.{Rule}
use Rattle.netset_lib.specs.RuleAddresses.{HasSecondAddress, AreTwoAddresses, IsEitherMask, IsOnlyNetmask}
use Rattle.netset_lib.specs.RuleLines.{RuleContents, IsRuleText}

-- Why a text that names no addresses does not name any.
abbrev pub IsAddressesCause : Grammar → List ℕ → RuleCause → Type 0
IsAddressesCause grammar text UnknownWord = ⊥
IsAddressesCause grammar text NoEntry = text ≡ []
IsAddressesCause grammar text TwoEntries =
    (leading_word text ≢ text) × (leading_word text ≢ codes "host") × ¬ (AreTwoAddresses grammar text)
IsAddressesCause grammar text (BadEntry cause) =
    (text ≢ []) × (leading_word text ≡ text) × (text ≢ codes "host") × IsReportedCause grammar text cause
IsAddressesCause grammar text NoHost = leading_word text ≡ codes "host"
IsAddressesCause grammar text Netmask = HasSecondAddress grammar text IsOnlyNetmask
IsAddressesCause grammar text EitherMask = HasSecondAddress grammar text IsEitherMask
IsAddressesCause grammar text NoMask = HasSecondAddress grammar text (λ number. ¬ (IsNetmaskNumber number))

-- Why a mask is not a wildcard mask that is accepted after an address.
abbrev pub IsMaskCause : ℕ → RuleCause → Type 0
IsMaskCause number Netmask = IsOnlyNetmask number
IsMaskCause number EitherMask = IsEitherMask number
IsMaskCause number NoMask = ¬ (IsNetmaskNumber number)
IsMaskCause number UnknownWord = ⊥
IsMaskCause number NoEntry = ⊥
IsMaskCause number TwoEntries = ⊥
IsMaskCause number (BadEntry cause) = ⊥
IsMaskCause number NoHost = ⊥

-- The rule of this line is added.
pub record AddsRule (grammar : Grammar) (line : ContentLine) (old new : RuleContents) : Type 0 where
  pub rule : Rule
  pub is : IsRuleText grammar line.text rule
  pub rules : new.rules ≡ old.rules ++ rule ∷ []
  pub lines : new.lines ≡ old.lines ++ line ∷ []
