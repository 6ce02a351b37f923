-- Entries of prefix lists, as contracts see them.
use Rattle.std.specs.Borrow.{Bor}
use Rattle.std.specs.Global.{Vec}
use Rattle.std.specs.Prelude.{ℕ, List, map, Option, option_map, Result, Ok, Err}
use Rattle.ipnet_base.specs.Address.{Family, IPv4, IPv6}
use Rattle.netset_lib.specs.declared.prefix_entry.NamedRule.{NamedRule}
use Rattle.netset_lib.specs.declared.prefix_entry.RouterFamily.{RouterFamily}
use Rattle.netset_lib.specs.declared.prefix_entry.RouterFamily.TheVariants.{Ipv4, Ipv6}
use Rattle.ipnet_rules.specs.declared.prefix_list.PrefixRule.{PrefixRule}
use Rattle.netset_lib.specs.declared.prefix_choice.ChoiceFault.{ChoiceFault}
use Rattle.netset_lib.specs.PrefixEntries.{PrefixEntry, AreChosen, IsNameFault, AreRulesOf, IsChoiceFault}

-- The family of a router's line.
abbrev pub line_family : RouterFamily → Family
line_family Ipv4 = IPv4
line_family Ipv6 = IPv6

-- The text that is lent, if there is one.
abbrev pub lent_text : Option (Bor (List ℕ)) → Option (List ℕ)
lent_text = option_map (λ text. text.now)

-- The entry that the value is.
abbrev pub entry_of : NamedRule → PrefixEntry
entry_of e = record { name = lent_text e.name; number = e.number; rule = e.rule }

-- The chosen entries, or why none are chosen.
abbrev pub IsChoice : Option (List ℕ) → List PrefixEntry → Result (Vec NamedRule) ChoiceFault → Type 0
IsChoice name entries (Ok chosen) = AreChosen name entries (map entry_of chosen.items)
IsChoice name entries (Err fault) = IsNameFault name entries fault

-- The rules of a list, or why there are none.
abbrev pub IsRuleChoice : Option (List ℕ) → List PrefixEntry → Result (Vec PrefixRule) ChoiceFault → Type 0
IsRuleChoice name entries (Ok rules) = AreRulesOf name entries rules.items
IsRuleChoice name entries (Err fault) = IsChoiceFault name entries fault
