-- The verdicts of a prefix list on the networks of a list.
use Rattle.std.specs.Prelude.{◌≡◌, ◌≢◌, ◌↔◌, ℕ, List, [], ◌∷◌, ◌++◌, codes, Any, Bool, Option, IsTrue, Some}
use Rattle.ipnet_base.specs.Network.{Network}
use Rattle.ipnet.specs.declared.parser.Grammar.{Grammar}
use Rattle.ipnet_rules.specs.declared.rules.Action.{Action}
use Rattle.ipnet_rules.specs.declared.rules.Action.TheVariants.{Deny}
use Rattle.ipnet_rules.specs.declared.prefix_list.PrefixRule.{PrefixRule}
use Rattle.ipnet_rules.specs.PrefixLists.{IsRouteVerdict}
use Rattle.netset_lib.specs.declared.network_entry.NetworkCause.{NetworkCause}
use Rattle.netset_lib.specs.declared.prefix_line.PrefixCause.{PrefixCause}
use Rattle.netset_lib.specs.declared.network_entry.NetworkCause.TheVariants.{NoEntry}
use Rattle.ipnet_lists.specs.declared.cause.Cause.TheVariants.{CarriageReturn}
use Rattle.ipnet_lists.specs.ContentLines.{IsItemList, OrBroken}
use Rattle.ipnet_lists.specs.Lists.{RefusalFor}
use Rattle.netset_lib.specs.NetworkEntries.{IsNetworkWord, IsNoNetworkWord, IsNetworkCause}
use Rattle.netset_lib.specs.PrefixEntries.{PrefixEntry, ArePrefixEntries, AreRulesOf}
use Rattle.netset_lib.specs.RuleLines.{word_of}

-- A network of a list, and its text.
pub record ListNetwork : Type 0 where
  pub text : List ℕ
  pub network : Network

-- The text is this network. Example: `10.0.0.9/8` is 10.0.0.0/8, and `10.0.0.1` is 10.0.0.1/32.
pub record IsListNetwork (grammar : Grammar) (text : List ℕ) (n : ListNetwork) : Type 0 where
  pub same_text : n.text ≡ text
  pub network : IsNetworkWord grammar text n.network

-- Why a text is not a network: it is not one, for this cause.
pub record IsNoListNetwork (grammar : Grammar) (text : List ℕ) (cause : NetworkCause) : Type 0 where
  pub none : IsNoNetworkWord grammar text
  pub reported : IsNetworkCause grammar text cause

-- Why a line of a list of networks is refused: it has a carriage return in it, or it is not a network.
-- Example: `10.0.0.0/8 # ours\r::/0`; `10.0.0.0/33`.
abbrev pub IsNetworkLineCause : Grammar → List ℕ → NetworkCause → Type 0
IsNetworkLineCause grammar = OrBroken (NoEntry (Some CarriageReturn)) (IsNoListNetwork grammar)

-- The bytes are a list of networks: each line is a network or an address, or is refused. Blanks, comments and a byte
-- order mark are as in lists of entries. Example: of `10.0.0.0/8\n10.0.0.0-10.0.0.255\n`, line 2 is refused.
abbrev pub IsNetworkList : Grammar → List ℕ → List ListNetwork → List (RefusalFor NetworkCause) → Type 0
IsNetworkList grammar = IsItemList (λ line. IsListNetwork grammar line.text) (IsNetworkLineCause grammar)

-- The line of a verdict: the word of the action, and the network as it is written. Example: `permit 10.1.0.0/16`.
abbrev pub verdict_line : Action → ListNetwork → List ℕ
verdict_line action n = word_of action ++ codes " " ++ n.text ++ 10 ∷ []

-- The lines are the verdicts of the rules on the networks, in order.
-- Example: of `permit 10.0.0.0/8 le 16` on 10.1.0.0/16 and 10.1.0.0/24, `permit 10.1.0.0/16` and `deny 10.1.0.0/24`.
abbrev pub AreVerdicts : List PrefixRule → List ListNetwork → List ℕ → Type 0
AreVerdicts rules [] text = text ≡ []
AreVerdicts rules (n ∷ networks) text = (action : Action) × (rest : List ℕ) × IsRouteVerdict rules n.network action
    × (text ≡ verdict_line action n ++ rest) × AreVerdicts rules networks rest

-- The rules deny one of the networks.
abbrev pub IsOneDenied : List PrefixRule → List ListNetwork → Type 0
IsOneDenied rules networks = Any (λ n. IsRouteVerdict rules n.network Deny) networks

-- No line of the prefix list and of the list of networks is refused, and the text is the verdicts of the list with the
-- name, or of the only one. `denied` says whether a network is denied.
pub record IsVerdictAnswer (grammar : Grammar) (prefixes : List ℕ) (name : Option (List ℕ)) (bytes : List ℕ)
    (denied : Bool) (text : List ℕ) : Type 0 where
  pub entries : List PrefixEntry
  pub rules : List PrefixRule
  pub networks : List ListNetwork
  pub prefix_list : ArePrefixEntries grammar prefixes entries []
  pub of_list : AreRulesOf name entries rules
  pub list : IsNetworkList grammar bytes networks []
  pub right : AreVerdicts rules networks text
  pub is_denied : IsTrue denied ↔ IsOneDenied rules networks

-- Some lines of the prefix list are refused, and these are all of them.
pub record HasRefusedPrefixes (grammar : Grammar) (prefixes : List ℕ) (refused : List (RefusalFor PrefixCause))
    : Type 0 where
  pub entries : List PrefixEntry
  pub read : ArePrefixEntries grammar prefixes entries refused
  pub some : refused ≢ []

-- Some lines of the list of networks are refused, and these are all of them.
pub record HasRefusedNetworks (grammar : Grammar) (bytes : List ℕ) (refused : List (RefusalFor NetworkCause)) : Type
    0 where
  pub networks : List ListNetwork
  pub read : IsNetworkList grammar bytes networks refused
  pub some : refused ≢ []
