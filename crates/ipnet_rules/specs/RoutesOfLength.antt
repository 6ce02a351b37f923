-- The networks of one prefix length, by their addresses. Only private contracts use these.
use Rattle.std.specs.Prelude.{ℕ, ◌≤◌, ◌↔◌, List, Any}
use Rattle.ipnet_base.specs.Address.{Address, IsAddress, width}
use Rattle.ipnet.specs.NetworkOf.{ip_network}
use Rattle.ipnet.specs.NetworkParts.{network_at}
use Rattle.ipnet_rules.specs.declared.rules.Action.TheVariants.{Permit, Deny}
use Rattle.ipnet_rules.specs.declared.rules.Rule.{Rule}
use Rattle.ipnet_rules.specs.declared.prefix_list.PrefixRule.{PrefixRule}
use Rattle.ipnet_rules.specs.Rules.{Matches, HasRuleVerdict}
use Rattle.ipnet_rules.specs.PrefixLists.{IsLengthAsked, MatchesRoute, IsRoutePermitted}

-- The rule matches the networks of this length at the addresses of its network.
abbrev pub CanMatch : PrefixRule → ℕ → Type 0
CanMatch rule len = ((ip_network rule.network).prefix_len ≤ len) × (len ≤ width (ip_network rule.network).family)
    × IsLengthAsked (ip_network rule.network) rule.ge rule.le len

-- The rules for addresses match and permit an address if and only if the prefix rules match and permit the network of
-- this length at the address. They match only addresses of a family that has this length.
pub record AreRulesOfLength (rules : List PrefixRule) (len : ℕ) (list : List Rule) : Type 0 where
  pub matched : (x : Address) → IsAddress x → len ≤ width x.family
      → Any (λ r. Matches r x) list ↔ Any (λ r. MatchesRoute r (network_at x len)) rules
  pub permitted : (x : Address) → IsAddress x → len ≤ width x.family
      → HasRuleVerdict list Deny x Permit ↔ IsRoutePermitted rules (network_at x len)
  pub fits : (x : Address) → Any (λ r. Matches r x) list → len ≤ width x.family
