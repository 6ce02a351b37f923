-- Ordered rules for addresses.
-- In the examples, the rules are `deny 10.0.1.128/25`, then `permit 10.0.0.0/23`, and the default is to deny.
use Rattle.std.specs.Prelude.{◌⊎◌, ◌↔◌, List}
use Rattle.ipnet_base.specs.Address.{Address, IsAddress, ip_address}
use Rattle.ipnet_base.specs.Network.{InBlock}
use Rattle.ipnet.specs.NetworkOf.{ip_network}
use Rattle.ipnet_sets.specs.Members.{IsMember, IsFromTo}
use Rattle.ipnet_rules.specs.declared.rules.Action.{Action}
use Rattle.ipnet_rules.specs.declared.rules.Action.TheVariants.{Permit}
use Rattle.ipnet_rules.specs.declared.rules.Addresses.{Addresses}
use Rattle.ipnet_rules.specs.declared.rules.Addresses.TheVariants as Of
use Rattle.ipnet_rules.specs.declared.rules.Rule.{Rule}
use Rattle.ipnet_rules.specs.declared.rules.Rules.{Rules}
use Rattle.ipnet_rules.specs.Verdicts.{HasVerdict}

-- The network's block, the range or the set contains the address; or each address is meant. Example: 10.0.0.7 is one of
-- 10.0.0.0/24, and one of 10.0.0.3 to 10.0.0.9.
abbrev pub IsOneOf : Addresses → Address → Type 0
IsOneOf (Of.Network network) x = InBlock (ip_network network) x
IsOneOf (Of.Range first last) x = IsFromTo (ip_address first) (ip_address last) x
IsOneOf (Of.Set set) x = IsMember set x
IsOneOf Of.Any x = IsAddress x

-- A rule matches the addresses that it names. Example: both rules match 10.0.1.200, and only the second 10.0.1.5.
abbrev pub Matches : Rule → Address → Type 0
Matches rule x = IsOneOf rule.addresses x

-- The first rule of the list that matches the address has this action; it is the default if no rule matches.
-- Example: to deny for 10.0.1.200 and for 8.8.8.8, and to permit for 10.0.1.5.
abbrev pub HasRuleVerdict : List Rule → Action → Address → Action → Type 0
HasRuleVerdict rules default = HasVerdict Matches (λ r. r.action) default rules

-- The verdict of the rules on the address. Example: to deny for 10.0.1.200, and to permit for 10.0.1.5.
abbrev pub IsVerdict : Rules → Address → Action → Type 0
IsVerdict rules = HasRuleVerdict rules.list.items rules.default

-- The rules permit the address. Example: 10.0.1.5, and not 10.0.1.200.
abbrev pub IsPermitted : Rules → Address → Type 0
IsPermitted rules x = IsVerdict rules x Permit

-- The two permit the same addresses, so they have the same verdict on each address.
-- Example: the rules, and `permit 10.0.0.0/24`, `permit 10.0.1.0/25` with the same default.
abbrev pub HaveSameVerdicts : Rules → Rules → Type 0
HaveSameVerdicts rules others = (x : Address) → IsAddress x → IsPermitted rules x ↔ IsPermitted others x

-- One of the two permits the address, and the other does not.
-- Example: 10.0.1.200 for the rules and `permit 10.0.0.0/23` with the same default.
pub record HaveOtherVerdicts (rules others : Rules) (x : Address) : Type 0 where
  pub address : IsAddress x
  pub differ : (IsPermitted rules x × ¬ (IsPermitted others x)) ⊎ (IsPermitted others x × ¬ (IsPermitted rules x))
