-- The addresses that an access list admits, and those that two lists of networks allow.
use Rattle.std.specs.Prelude.{List}
use Rattle.ipnet.specs.Address.{Address}
use Rattle.ipnet.specs.Network.{Network}
use Rattle.ipnet.specs.Blocks.{IsCoveredBy}
use Rattle.ipnet_sets.specs.Members.{IsMember}
use Rattle.example_firewall.specs.declared.access_list.AccessList.{AccessList}

-- The list admits the address.
abbrev pub IsLetIn : AccessList → Address → Type 0
IsLetIn list = IsMember list.open

-- The address lies in an allowed network and in no denied one.
-- Example: 10.0.0.0/23 allowed and 10.0.1.128/25 denied admit 10.0.1.5, and not 10.0.1.200 or 8.8.8.8.
pub record IsAllowed (allow deny : List Network) (x : Address) : Type 0 where
  pub allowed : IsCoveredBy allow x
  pub undenied : ¬ (IsCoveredBy deny x)
