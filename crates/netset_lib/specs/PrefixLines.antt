-- Prefix lists as people keep them: on each line an action, a network, and bounds of prefix lengths.
use Rattle.std.specs.Prelude.{◌≡◌, ◌⊎◌, ℕ, List, [], codes, Option, Some, None}
use Rattle.ipnet_base.specs.Network.{Network}
use Rattle.ipnet.specs.NetworkOf.{ip_network}
use Rattle.ipnet.specs.Numerals.{IsDecimal}
use Rattle.ipnet.specs.declared.parser.Grammar.{Grammar}
use Rattle.ipnet.specs.declared.parser.Grammar.TheVariants.{Strict}
use Rattle.ipnet_rules.specs.declared.prefix_list.PrefixRule.{PrefixRule}
use Rattle.ipnet_rules.specs.declared.prefix_list.PrefixRuleError.{PrefixRuleError}
use Rattle.ipnet_rules.specs.declared.prefix_list.PrefixRuleError.TheVariants as Errors
use Rattle.ipnet_rules.specs.PrefixLists.{IsBound, IsAbove}
use Rattle.netset_lib.specs.declared.prefix_line.PrefixCause.{PrefixCause}
use Rattle.netset_lib.specs.declared.prefix_line.PrefixCause.TheVariants.{UnknownWord, NoNetwork, BadBounds}
use Rattle.netset_lib.specs.declared.prefix_line.PrefixCause.TheVariants.{RefusedBounds, NoName, NoNumber, OtherFamily}
use Rattle.netset_lib.specs.NetworkEntries.{IsNetworkWord, IsNoNetworkWord, IsNetworkCause}
use Rattle.netset_lib.specs.RuleLines.{word_of, HasRuleWord}
use Rattle.ipnet_lists.specs.Words.{leading_word, after_word}

-- The text is the keyword, blanks, a number from 0 to 128 without leading zeros, and after blanks the rest.
-- Example: `ge 16 le 24` has the keyword `ge`, the number 16 and the rest `le 24`.
pub record HasBound (keyword text : List ℕ) (bound : ℕ) (rest : List ℕ) : Type 0 where
  pub word : leading_word text ≡ keyword
  pub number : IsDecimal Strict 3 128 (leading_word (after_word text)) bound
  pub after : rest ≡ after_word (after_word text)

-- The text is the bounds of a rule: `ge` and `le`, each at most once, in any order.
-- Example: `ge 16 le 24` and `le 24 ge 16` are 16 and 24; `le 24` is only le; the empty text has neither.
abbrev pub IsBoundsText : List ℕ → Option ℕ → Option ℕ → Type 0
IsBoundsText text None None = text ≡ []
IsBoundsText text (Some ge) None = HasBound (codes "ge") text ge []
IsBoundsText text None (Some le) = HasBound (codes "le") text le []
IsBoundsText text (Some ge) (Some le) = (rest : List ℕ)
    × ((HasBound (codes "ge") text ge rest × HasBound (codes "le") rest le [])
    ⊎ (HasBound (codes "le") text le rest × HasBound (codes "ge") rest ge []))

-- The word of the network: the second word of the line. Example: `10.0.0.0/8` of `permit 10.0.0.0/8 ge 16`.
abbrev pub network_word : List ℕ → List ℕ
network_word text = leading_word (after_word text)

-- The text of the bounds: what follows the second word. Example: `ge 16` of `permit 10.0.0.0/8 ge 16`.
abbrev pub bounds_text : List ℕ → List ℕ
bounds_text text = after_word (after_word text)

-- The text is a rule of a prefix list: the word of its action, its network, and bounds that are accepted.
-- Example: `permit 10.0.0.0/8 ge 16 le 24`, which permits the networks in 10.0.0.0/8 of the lengths 16 to 24.
pub record IsPrefixText (grammar : Grammar) (text : List ℕ) (rule : PrefixRule) : Type 0 where
  pub word : leading_word text ≡ word_of rule.action
  pub network : IsNetworkWord grammar (network_word text) (ip_network rule.network)
  pub bounds : IsBoundsText (bounds_text text) rule.ge rule.le
  pub ge_fits : IsBound (ip_network rule.network) rule.ge
  pub le_fits : IsBound (ip_network rule.network) rule.le
  pub ordered : ¬ (IsAbove rule.ge rule.le)

-- The error of bounds for this network: the first of the three whose sentence is true.
abbrev pub IsBoundsError : Network → Option ℕ → Option ℕ → PrefixRuleError → Type 0
IsBoundsError k ge le Errors.GeOutOfRange = ¬ (IsBound k ge)
IsBoundsError k ge le Errors.LeOutOfRange = IsBound k ge × ¬ (IsBound k le)
IsBoundsError k ge le Errors.GeAboveLe = IsBound k ge × IsBound k le × IsAbove ge le

-- The bounds of the text are refused for its network, with this error.
pub record HasRefusedBounds (grammar : Grammar) (text : List ℕ) (error : PrefixRuleError) : Type 0 where
  pub network : Network
  pub ge : Option ℕ
  pub le : Option ℕ
  pub writes_network : IsNetworkWord grammar (network_word text) network
  pub writes_bounds : IsBoundsText (bounds_text text) ge le
  pub refused : IsBoundsError network ge le error

-- Why a text is not a rule of a prefix list: its first word is not an action; its second word is not a network; what
-- follows a network is not bounds; the bounds are refused. The other causes are of the words before a rule.
-- Example: `allow 10.0.0.0/8`; `permit any`; `permit 10.0.0.0/8 ge`; `permit 10.0.0.0/8 ge 24 le 16`.
abbrev pub IsPrefixCause : Grammar → List ℕ → PrefixCause → Type 0
IsPrefixCause grammar text UnknownWord = ¬ (HasRuleWord text)
IsPrefixCause grammar text (NoNetwork cause) = HasRuleWord text × IsNoNetworkWord grammar (network_word text)
    × IsNetworkCause grammar (network_word text) cause
IsPrefixCause grammar text BadBounds =
    HasRuleWord text × ((n : Network) × IsNetworkWord grammar (network_word text) n)
    × ((ge le : Option ℕ) → ¬ (IsBoundsText (bounds_text text) ge le))
IsPrefixCause grammar text (RefusedBounds error) = HasRuleWord text × HasRefusedBounds grammar text error
IsPrefixCause grammar text NoName = ⊥
IsPrefixCause grammar text NoNumber = ⊥
IsPrefixCause grammar text OtherFamily = ⊥
