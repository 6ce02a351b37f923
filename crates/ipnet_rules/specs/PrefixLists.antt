-- Prefix lists: rules for routes, by their network and their prefix length.
use Rattle.std.specs.Prelude.{◌≡◌, ℕ, ◌<◌, ◌≤◌, ◌⊎◌, ◌↔◌, Option, Some, None, List, ⊤}
use Rattle.ipnet_base.specs.Address.{width}
use Rattle.ipnet_base.specs.Network.{Network, IsNetwork, IsSubnetOf, IsTruncated}
use Rattle.ipnet.specs.NetworkOf.{ip_network}
use Rattle.ipnet.specs.NetworkParts.{own_address}
use Rattle.ipnet_sets.specs.Members.{IsAtMost}
use Rattle.ipnet_rules.specs.declared.rules.Action.{Action}
use Rattle.ipnet_rules.specs.declared.rules.Action.TheVariants.{Permit, Deny}
use Rattle.ipnet_rules.specs.declared.prefix_list.PrefixRule.{PrefixRule}
use Rattle.ipnet_rules.specs.Verdicts.{HasVerdict}

-- The prefix lengths that a rule for the network k asks for. Without ge and le it asks for the length of k. With ge it
-- asks for the lengths from ge on, and with le for those up to le. With both it asks for the lengths from ge to le.
-- Example: a rule for 10.0.0.0/8 asks for 8; with `ge 16` for 16 and more; with `le 24` for 24 and less. No network
-- with a length below 8 lies in 10.0.0.0/8, so the rule with `le 24` matches only 8 to 24.
abbrev pub IsLengthAsked : Network → Option ℕ → Option ℕ → ℕ → Type 0
IsLengthAsked k None None len = len ≡ k.prefix_len
IsLengthAsked k (Some ge) None len = ge ≤ len
IsLengthAsked k None (Some le) len = len ≤ le
IsLengthAsked k (Some ge) (Some le) len = (ge ≤ len) × (len ≤ le)

-- A rule matches the networks that lie in its own and have a length that it asks for.
-- Example: `10.0.0.0/8 le 24` matches 10.0.0.0/8 and 10.1.2.0/24, and neither 10.1.2.0/25 nor 11.0.0.0/16.
pub record MatchesRoute (rule : PrefixRule) (n : Network) : Type 0 where
  pub inside : IsSubnetOf n (ip_network rule.network)
  pub asked : IsLengthAsked (ip_network rule.network) rule.ge rule.le n.prefix_len

-- The first rule that matches the network has this action; a network that no rule matches is denied.
-- Example: by `deny 10.1.0.0/16`, `permit 10.0.0.0/8 le 24`, 10.1.0.0/16 and 11.0.0.0/16 are denied. 10.1.2.0/24 is
-- permitted, because the first rule matches only the length 16.
abbrev pub IsRouteVerdict : List PrefixRule → Network → Action → Type 0
IsRouteVerdict rules n = HasVerdict MatchesRoute (λ r. r.action) Deny rules n

-- The rules permit the network. Example: 10.1.2.0/24 by the rules above.
abbrev pub IsRoutePermitted : List PrefixRule → Network → Type 0
IsRoutePermitted rules n = IsRouteVerdict rules n Permit

-- The bound is above the prefix length of k, and at most the width of its family; or there is no bound.
-- Example: 9 to 32 for 10.0.0.0/8.
abbrev pub IsBound : Network → Option ℕ → Type 0
IsBound k None = ⊤
IsBound k (Some bound) = (k.prefix_len < bound) × (bound ≤ width k.family)

-- Both bounds are given, and ge is above le. Example: `ge 24 le 16`.
abbrev pub IsAbove : Option ℕ → Option ℕ → Type 0
IsAbove (Some ge) (Some le) = le < ge
IsAbove _ _ = ⊥

-- The rule has this action, this network, and these bounds.
pub record IsPrefixRule (action : Action) (k : Network) (ge le : Option ℕ) (rule : PrefixRule) : Type 0 where
  pub of_action : rule.action ≡ action
  pub of_network : ip_network rule.network ≡ k
  pub of_ge : rule.ge ≡ ge
  pub of_le : rule.le ≡ le

-- The two lists permit the same networks.
-- Example: `permit 10.0.0.0/8 ge 9 le 9`, and `permit 10.0.0.0/9` with `permit 10.128.0.0/9`.
abbrev pub PermitSameRoutes : List PrefixRule → List PrefixRule → Type 0
PermitSameRoutes rules others = (n : Network) → IsNetwork n → IsRoutePermitted rules n ↔ IsRoutePermitted others n

-- One of the two lists permits the network, and the other does not.
-- Example: 10.0.0.0/25 for `permit 10.0.0.0/8 le 25` and `permit 10.0.0.0/8 le 24`.
pub record IsPermittedByOne (rules others : List PrefixRule) (n : Network) : Type 0 where
  pub network : IsNetwork n
  pub differ : (IsRoutePermitted rules n × ¬ (IsRoutePermitted others n))
      ⊎ (IsRoutePermitted others n × ¬ (IsRoutePermitted rules n))

-- The first network of this prefix length that one of the two lists permits and the other does not. It has no host
-- bits, and IPv4 comes before IPv6.
pub record IsFirstOfLength (rules others : List PrefixRule) (len : ℕ) (n : Network) : Type 0 where
  pub of_length : n.prefix_len ≡ len
  pub truncated : IsTruncated n
  pub first : (k : Network) → IsPermittedByOne rules others k → k.prefix_len ≡ len
      → IsAtMost (own_address n) (own_address k)

-- The first of the shortest networks that one of the two lists permits and the other does not.
-- Example: 10.0.0.0/25, if only the first list permits the networks in 10.0.0.0/8 that are longer than 24.
pub record IsFirstDifference (rules others : List PrefixRule) (n : Network) : Type 0 where
  pub shortest : (k : Network) → IsPermittedByOne rules others k → n.prefix_len ≤ k.prefix_len
  pub first : IsFirstOfLength rules others n.prefix_len n
