-- Which rules of a list decide on which addresses: the cells of both families, and the rules that own one.
use Rattle.std.specs.Prelude.{ℕ, ◌⊎◌, ◌↔◌, List, Contains}
use Rattle.std.specs.List.Sorted.{IsNonDecreasing}
use Rattle.ipnet_base.specs.Address.{IPv4, IPv6}
use Rattle.ipnet_rules.specs.declared.rules.Rule.{Rule}
use Rattle.ipnet_rules.specs.declared.unreached.Decisions.{Decisions}
use Rattle.ipnet_rules.specs.Cells.{AreCells}

-- the cells of all rules, and the rules that own a cell, in order
pub record AreDecisions (rules : List Rule) (c : Decisions) : Type 0 where
  pub ipv4 : AreCells IPv4 rules c.ipv4
  pub ipv6 : AreCells IPv6 rules c.ipv6
  pub ascending : IsNonDecreasing c.reached.items
  pub members : (place : ℕ) → Contains c.reached.items place
      ↔ (Contains c.ipv4.owners.items place ⊎ Contains c.ipv6.owners.items place)
