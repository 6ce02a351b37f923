-- The private steps of the verdicts of a prefix list.
-- Only private contracts use these, except `IsPrefixFailure`.
use Rattle.std.specs.Prelude.{◌≡◌, ◌↔◌, ◌⊎◌, ℕ, List, [], ◌++◌, map, Option, IsTrue}
use Rattle.ipnet.specs.declared.parser.Grammar.{Grammar}
use Rattle.ipnet_rules.specs.declared.rules.Action.{Action}
use Rattle.ipnet_rules.specs.declared.rules.Action.TheVariants.{Deny}
use Rattle.ipnet_rules.specs.declared.prefix_list.PrefixRule.{PrefixRule}
use Rattle.ipnet_rules.specs.PrefixLists.{IsRouteVerdict}
use Rattle.netset_lib.specs.declared.prefix_answer.JudgedNetworks.{JudgedNetworks}
use Rattle.netset_lib.specs.declared.prefix_answer.PrefixFailure.{PrefixFailure}
use Rattle.netset_lib.specs.declared.prefix_answer.PrefixFailure.TheVariants as Failures
use Rattle.netset_lib.specs.declared.prefix_answer.PrefixLines.{PrefixLines}
use Rattle.netset_lib.specs.declared.prefix_answer.Verdicts.{Verdicts}
use Rattle.ipnet_lists.specs.Lists.{RefusalFor}
use Rattle.ipnet_lists.specs.RefusedLines.{AreRefused}
use Rattle.netset_lib.specs.declared.network_entry.NetworkCause.{NetworkCause}
use Rattle.netset_lib.specs.declared.prefix_line.PrefixCause.{PrefixCause}
use Rattle.netset_lib.specs.PrefixAnswers.{ListNetwork, IsNetworkList, verdict_line, AreVerdicts, IsOneDenied}
use Rattle.netset_lib.specs.PrefixAnswers.{HasRefusedPrefixes, HasRefusedNetworks}
use Rattle.netset_lib.specs.PrefixEntries.{PrefixEntry, ArePrefixEntries, AreRulesOf, IsChoiceFault}
use Rattle.netset_lib.specs.PrefixEntryOf.{entry_of}

-- The entries and the refused lines of the bytes.
abbrev pub ArePrefixesRead : Grammar → List ℕ → PrefixLines → Type 0
ArePrefixesRead grammar bytes lines = (refusals : List (RefusalFor PrefixCause))
    × ArePrefixEntries grammar bytes (map entry_of lines.entries.items) refusals × AreRefused lines.refused refusals

-- These are the verdicts of the rules on the networks.
pub record AreVerdictsOn (rules : List PrefixRule) (verdicts : Verdicts) (networks : List ListNetwork) : Type 0 where
  pub text : AreVerdicts rules networks verdicts.text.items
  pub denied : IsTrue verdicts.denied ↔ IsOneDenied rules networks

-- The verdicts of the rules on the networks of the bytes, and the refused lines.
abbrev pub AreJudged : Grammar → List ℕ → List PrefixRule → JudgedNetworks → Type 0
AreJudged grammar bytes rules judged = (networks : List ListNetwork) × (refusals : List (RefusalFor NetworkCause))
    × IsNetworkList grammar bytes networks refusals × AreRefused judged.refused refusals
    × AreVerdictsOn rules judged.verdicts networks

-- The verdict of the rules on the network is added.
pub record AddsVerdict (rules : List PrefixRule) (n : ListNetwork) (old new : Verdicts) : Type 0 where
  pub action : Action
  pub verdict : IsRouteVerdict rules n.network action
  pub line : new.text.items ≡ old.text.items ++ verdict_line action n
  pub denied : IsTrue new.denied ↔ (IsTrue old.denied ⊎ (action ≡ Deny))

-- No line of the prefix list is refused, and the list with the name, or the only one, has these rules.
pub record HasRules (grammar : Grammar) (prefixes : List ℕ) (name : Option (List ℕ)) : Type 0 where
  pub entries : List PrefixEntry
  pub rules : List PrefixRule
  pub prefix_list : ArePrefixEntries grammar prefixes entries []
  pub of_list : AreRulesOf name entries rules

-- Why there are no verdicts: refused lines of the prefix list; entries that are not one list; refused lines of the list
-- of networks, if the prefix list is right; or out of memory. When memory runs out is not specified.
abbrev pub IsPrefixFailure : Grammar → (prefixes : List ℕ) → Option (List ℕ) → (bytes : List ℕ) → PrefixFailure → Type 0
IsPrefixFailure grammar prefixes name bytes (Failures.Choice fault) = (entries : List PrefixEntry)
    × ArePrefixEntries grammar prefixes entries [] × IsChoiceFault name entries fault
IsPrefixFailure grammar prefixes name bytes (Failures.Prefixes lines) =
    (refusals : List (RefusalFor PrefixCause)) × HasRefusedPrefixes grammar prefixes refusals
    × AreRefused lines refusals
IsPrefixFailure grammar prefixes name bytes (Failures.Networks lines) = HasRules grammar prefixes name
    × ((refusals : List (RefusalFor NetworkCause)) × HasRefusedNetworks grammar bytes refusals
    × AreRefused lines refusals)
IsPrefixFailure grammar prefixes name bytes Failures.Memory = Unit {0}
