-- The words of the reports for lines that are refused: what a line is not, and why.
use Rattle.std.specs.Prelude.{◌≡◌, ℕ, List, codes, Option, Some, None}
use Rattle.ipnet_lists.specs.CauseTexts.{cause_text}
use Rattle.ipnet_lists.specs.declared.cause.Cause.{Cause}
use Rattle.ipnet_lists.specs.Reports.{no_entry}
use Rattle.ipnet_rules.specs.declared.prefix_list.PrefixRuleError.{PrefixRuleError}
use Rattle.ipnet_rules.specs.declared.prefix_list.PrefixRuleError.TheVariants.{GeOutOfRange, LeOutOfRange, GeAboveLe}
use Rattle.netset_lib.specs.declared.change_line.ChangeCause.{ChangeCause}
use Rattle.netset_lib.specs.declared.change_line.ChangeCause.TheVariants as Changes
use Rattle.netset_lib.specs.declared.network_entry.NetworkCause.{NetworkCause}
use Rattle.netset_lib.specs.declared.network_entry.NetworkCause.TheVariants as Networks
use Rattle.netset_lib.specs.declared.prefix_line.PrefixCause.{PrefixCause}
use Rattle.netset_lib.specs.declared.prefix_line.PrefixCause.TheVariants as Prefixes
use Rattle.netset_lib.specs.declared.rule_cause.RuleCause.{RuleCause}
use Rattle.netset_lib.specs.declared.rule_cause.RuleCause.TheVariants as Rules

-- Why a text is not an entry.
abbrev pub entry_reason : Option Cause → List ℕ
entry_reason None = no_entry
entry_reason (Some cause) = cause_text cause

-- Why a text is not a network.
abbrev pub network_reason : NetworkCause → List ℕ
network_reason Networks.Missing = codes "no network follows"
network_reason Networks.Range = codes "a range: write its networks"
network_reason Networks.TwoWords = codes "more than one word follows"
network_reason (Networks.NoEntry cause) = entry_reason cause

-- Why a line is not a change of a list.
abbrev pub change_reason : ChangeCause → List ℕ
change_reason Changes.UnknownSign = codes "a change begins with + or - and a blank"
change_reason Changes.Present = codes "the list has this network already"
change_reason Changes.Absent = codes "the list has no such network"
change_reason (Changes.NoNetwork cause) = network_reason cause

-- Why a line is not a rule.
abbrev pub rule_reason : RuleCause → List ℕ
rule_reason Rules.UnknownWord = codes "a rule begins with permit or deny"
rule_reason Rules.NoEntry = codes "no network, address or range follows"
rule_reason Rules.TwoEntries = codes "more than one word follows"
rule_reason (Rules.BadEntry cause) = entry_reason cause
rule_reason Rules.NoHost = codes "after host: one address"
rule_reason Rules.Netmask = codes "a netmask: write it after /, or a wildcard mask such as 0.0.0.255"
rule_reason Rules.EitherMask = codes "0.0.0.0 and 255.255.255.255 have two meanings: write host and the address, or any"
rule_reason Rules.NoMask = codes "the second address is not a contiguous wildcard mask"

-- Why the bounds of a rule of a prefix list are refused.
abbrev pub bounds_reason : PrefixRuleError → List ℕ
bounds_reason GeOutOfRange = codes "ge must be above the prefix length and at most 32, or 128 for IPv6"
bounds_reason LeOutOfRange = codes "le must be above the prefix length and at most 32, or 128 for IPv6"
bounds_reason GeAboveLe = codes "ge must be at most le"

-- Why a line is not a rule of a prefix list.
abbrev pub prefix_reason : PrefixCause → List ℕ
prefix_reason Prefixes.UnknownWord = codes "a rule begins with permit or deny"
prefix_reason (Prefixes.NoNetwork cause) = network_reason cause
prefix_reason Prefixes.BadBounds = codes "after the network: ge or le and a number, each at most once"
prefix_reason (Prefixes.RefusedBounds error) = bounds_reason error
prefix_reason Prefixes.NoName = codes "after prefix-list: a name"
prefix_reason Prefixes.NoNumber = codes "after seq: a number up to 4294967295"
prefix_reason Prefixes.OtherFamily = codes "ip is for IPv4 networks, and ipv6 for IPv6 networks"

-- The words for a line that is not a network.
abbrev pub no_network : List ℕ
no_network = codes "not a network"

-- The words for a line that is not a rule of a prefix list.
abbrev pub no_prefix_rule : List ℕ
no_prefix_rule = codes "not a rule of a prefix list"

-- The text is not what `what_not` says, for the reason that `reason_of` names.
abbrev pub Explains : {C : Type 0} → List ℕ → (C → List ℕ) → C → List ℕ → List ℕ → Option (List ℕ) → Type 0
Explains what_not reason_of cause text what why = (what ≡ what_not) × (why ≡ Some (reason_of cause))
