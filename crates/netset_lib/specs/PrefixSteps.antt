-- The private steps of reading a line of a prefix list.
-- Only private contracts use these.
use Rattle.std.specs.Prelude.{◌≡◌, ℕ, List, [], Option, Some, None}
use Rattle.ipnet_base.specs.Network.{Network}
use Rattle.ipnet.specs.NetworkOf.{ip_network}
use Rattle.ipnet_rules.specs.declared.rules.Action.{Action}
use Rattle.ipnet_rules.specs.declared.prefix_list.PrefixRule.{PrefixRule}
use Rattle.ipnet_rules.specs.PrefixLists.{IsBound, IsAbove}
use Rattle.netset_lib.specs.declared.prefix_line.PrefixCause.{PrefixCause}
use Rattle.netset_lib.specs.declared.prefix_line.PrefixCause.TheVariants.{UnknownWord, NoNetwork, BadBounds}
use Rattle.netset_lib.specs.declared.prefix_line.PrefixCause.TheVariants.{RefusedBounds, NoName, NoNumber, OtherFamily}
use Rattle.netset_lib.specs.PrefixLines.{HasBound, IsBoundsText, IsBoundsError}

-- The text is the first keyword and a number, and then the second keyword and a number, or nothing.
abbrev pub HasPair : (first second text : List ℕ) → ℕ → Option ℕ → Type 0
HasPair first second text a None = HasBound first text a []
HasPair first second text a (Some b) = (rest : List ℕ) × HasBound first text a rest × HasBound second rest b []

-- The rule has this action and this network, and bounds that the text is and that are accepted.
pub record IsRuleOf (action : Action) (k : Network) (text : List ℕ) (rule : PrefixRule) : Type 0 where
  pub of_action : rule.action ≡ action
  pub of_network : ip_network rule.network ≡ k
  pub bounds : IsBoundsText text rule.ge rule.le
  pub ge_fits : IsBound k rule.ge
  pub le_fits : IsBound k rule.le
  pub ordered : ¬ (IsAbove rule.ge rule.le)

-- Why the text is not bounds for this network.
abbrev pub IsBoundsCause : Network → List ℕ → PrefixCause → Type 0
IsBoundsCause k text UnknownWord = ⊥
IsBoundsCause k text (NoNetwork cause) = ⊥
IsBoundsCause k text NoName = ⊥
IsBoundsCause k text NoNumber = ⊥
IsBoundsCause k text OtherFamily = ⊥
IsBoundsCause k text BadBounds = (ge le : Option ℕ) → ¬ (IsBoundsText text ge le)
IsBoundsCause k text (RefusedBounds error) =
    (ge le : Option ℕ) × IsBoundsText text ge le × IsBoundsError k ge le error
