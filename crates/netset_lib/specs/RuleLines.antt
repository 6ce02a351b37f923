-- Lists of rules as people keep them: a rule on each line, which is a word and an entry.
use Rattle.std.specs.Prelude.{◌≡◌, ◌≢◌, ℕ, List, [], codes, map, Some}
use Rattle.ipnet_base.specs.Ranges.{AddressRange}
use Rattle.ipnet.specs.declared.parser.Grammar.{Grammar}
use Rattle.ipnet_rules.specs.declared.rules.Action.{Action}
use Rattle.ipnet_rules.specs.declared.rules.Action.TheVariants.{Permit, Deny}
use Rattle.ipnet_rules.specs.declared.rules.Rule.{Rule}
use Rattle.ipnet_rules.specs.Rules.{Matches}
use Rattle.netset_lib.specs.declared.rule_cause.RuleCause.{RuleCause}
use Rattle.netset_lib.specs.declared.rule_cause.RuleCause.TheVariants.{UnknownWord, NoEntry, TwoEntries, BadEntry}
use Rattle.netset_lib.specs.declared.rule_cause.RuleCause.TheVariants.{NoHost, Netmask, EitherMask, NoMask}
use Rattle.ipnet_lists.specs.Causes.{IsNetmaskNumber, IsReportedCause}
use Rattle.ipnet_lists.specs.Entries.{IsNoEntry}
use Rattle.ipnet_lists.specs.declared.cause.Cause.TheVariants.{CarriageReturn}
use Rattle.ipnet_lists.specs.ContentLines.{ContentLine, IsItemList, OrBroken}
use Rattle.ipnet_lists.specs.Lists.{RefusalFor}
use Rattle.ipnet_lists.specs.Words.{leading_word, after_word}
use Rattle.netset_lib.specs.RuleAddresses.{NamesAddresses, IsHostText, HasSecondAddress, AreTwoAddresses, IsEitherMask}
use Rattle.netset_lib.specs.RuleAddresses.{IsOnlyNetmask}

-- The word of an action at the start of a rule.
abbrev pub word_of : Action → List ℕ
word_of Permit = codes "permit"
word_of Deny = codes "deny"

-- The text begins with the word of an action.
abbrev pub HasRuleWord : List ℕ → Type 0
HasRuleWord text = (action : Action) × (leading_word text ≡ word_of action)

-- The text is a rule: the word of its action, and what names its addresses.
-- Example: `deny 10.0.0.9-10.0.0.12` denies the addresses from 10.0.0.9 to 10.0.0.12, and `deny any` all addresses.
pub record IsRuleText (grammar : Grammar) (text : List ℕ) (rule : Rule) : Type 0 where
  pub word : leading_word text ≡ word_of rule.action
  pub addresses : NamesAddresses grammar (after_word text) (Matches rule)

-- The text is not a rule. Example: `allow 10.0.0.0/8`, `permit`, `permit 10.0.0.0/8 10.1.0.0/16`, `deny 10.0.0.0/33`.
abbrev pub IsNoRule : Grammar → List ℕ → Type 0
IsNoRule grammar text = (rule : Rule) → ¬ (IsRuleText grammar text rule)

-- Why a text is not a rule. The causes of the four examples above are: no action has the first word; nothing follows
-- it; more than one word follows it; the word that follows it is not an entry, and the prefix length is above 32.
-- The others: `host` follows, without one address; of two IPv4 addresses, the second is a netmask (`255.0.0.0`), or can
-- be a netmask and a wildcard mask (`0.0.0.0`, `255.255.255.255`), or is not a netmask (`0.0.255.0`).
-- A text has one of these causes: two words are `TwoEntries` only if the first is not `host` and they are not two IPv4
-- addresses, and a mask that can be both is not `Netmask`.
abbrev pub IsRuleCause : Grammar → List ℕ → RuleCause → Type 0
IsRuleCause grammar text UnknownWord = ¬ (HasRuleWord text)
IsRuleCause grammar text NoEntry = HasRuleWord text × (after_word text ≡ [])
IsRuleCause grammar text TwoEntries = HasRuleWord text × (leading_word (after_word text) ≢ after_word text)
    × (leading_word (after_word text) ≢ codes "host") × ¬ (AreTwoAddresses grammar (after_word text))
IsRuleCause grammar text (BadEntry cause) = HasRuleWord text × (after_word text ≢ [])
    × (leading_word (after_word text) ≡ after_word text) × (after_word text ≢ codes "host")
    × IsNoEntry grammar (after_word text) × IsReportedCause grammar (after_word text) cause
IsRuleCause grammar text NoHost = HasRuleWord text × (leading_word (after_word text) ≡ codes "host")
    × ((range : AddressRange) → ¬ (IsHostText grammar (after_word text) range))
IsRuleCause grammar text Netmask = HasRuleWord text × HasSecondAddress grammar (after_word text) IsOnlyNetmask
IsRuleCause grammar text EitherMask = HasRuleWord text × HasSecondAddress grammar (after_word text) IsEitherMask
IsRuleCause grammar text NoMask =
    HasRuleWord text × HasSecondAddress grammar (after_word text) (λ number. ¬ (IsNetmaskNumber number))

-- The text is not a rule, for this cause.
pub record IsRefusedRule (grammar : Grammar) (text : List ℕ) (cause : RuleCause) : Type 0 where
  pub none : IsNoRule grammar text
  pub reported : IsRuleCause grammar text cause

-- Why a line of a list of rules is refused: it has a carriage return in it, or it is not a rule.
-- Example: `permit 10.0.0.0/8 # ours\rdeny ::1`; `allow ::1`.
abbrev pub IsRuleLineCause : Grammar → List ℕ → RuleCause → Type 0
IsRuleLineCause grammar = OrBroken (BadEntry (Some CarriageReturn)) (IsRefusedRule grammar)

-- The contents of a list of rules: the rules, and the line of each rule, in order.
pub record RuleContents : Type 0 where
  pub rules : List Rule
  pub lines : List ContentLine

-- The contents are the rules of these lines.
abbrev pub contents_of_rules : List (ContentLine × Rule) → RuleContents
contents_of_rules items = record { rules = map (λ i. i.1) items; lines = map (λ i. i.0) items }

-- The line is this item: the line itself, and the rule that its text is.
abbrev pub IsRuleOfLine : Grammar → ContentLine → ContentLine × Rule → Type 0
IsRuleOfLine grammar line item = (item.0 ≡ line) × IsRuleText grammar line.text item.1

-- The bytes are a list of rules with these contents and refused lines. Blanks, comments and a byte order mark are as in
-- lists of entries.
-- Example: `permit 10.0.0.0/8 # ours\n\nallow ::1\n` has a rule on line 1, and line 3 is refused.
pub record IsRuleList (grammar : Grammar) (bytes : List ℕ) (contents : RuleContents)
    (refused : List (RefusalFor RuleCause)) : Type 0 where
  pub items : List (ContentLine × Rule)
  pub read : IsItemList (IsRuleOfLine grammar) (IsRuleLineCause grammar) bytes items refused
  pub is : contents ≡ contents_of_rules items
