-- The first and the last host of a network. Which addresses are hosts, `IsHostRange` of `ipnet` says.
use Rattle.std.specs.Prelude.{◌≤◌, Contains}
use Rattle.ipnet_base.specs.Address.{Address}
use Rattle.ipnet_base.specs.Network.{Network}
use Rattle.ipnet_base.specs.Ranges.{AddressRange, addresses_of}
use Rattle.ipnet.specs.NetworkParts.{IsHostRange}

-- The address is the least host of the network. Example: 10.0.0.1 for 10.0.0.0/24, and 10.0.0.0 for 10.0.0.0/31.
pub record IsFirstHost (n : Network) (x : Address) : Type 0 where
  pub hosts : AddressRange
  pub range : IsHostRange n hosts
  pub host : Contains (addresses_of hosts) x
  pub least : (y : Address) → Contains (addresses_of hosts) y → x.number ≤ y.number

-- The address is the greatest host of the network. Example: 10.0.0.254 for 10.0.0.0/24, and fd00::3 for fd00::/126.
pub record IsLastHost (n : Network) (x : Address) : Type 0 where
  pub hosts : AddressRange
  pub range : IsHostRange n hosts
  pub host : Contains (addresses_of hosts) x
  pub greatest : (y : Address) → Contains (addresses_of hosts) y → y.number ≤ x.number
