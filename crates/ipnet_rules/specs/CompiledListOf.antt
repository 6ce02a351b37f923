-- The rules of a compiled prefix list. Contracts see nothing else of a value.
use Rattle.std.specs.Prelude.{List}
use Rattle.ipnet_rules.specs.declared.compiled.CompiledPrefixList.{CompiledPrefixList}
use Rattle.ipnet_rules.specs.declared.prefix_list.PrefixRule.{PrefixRule}

-- The rules of the list that was compiled, in their order.
abbrev pub rules_of : CompiledPrefixList → List PrefixRule
rules_of compiled = compiled.list.list.items
