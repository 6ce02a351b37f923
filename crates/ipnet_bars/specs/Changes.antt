-- Changes: how the addresses of a block differ between two sets.
use Rattle.std.specs.Prelude.{◌↔◌, ℕ, List}
use Rattle.std.specs.List.{AllZip}
use Rattle.ipnet_base.specs.Address.{Address}
use Rattle.ipnet_base.specs.Network.{Network, InBlock}
use Rattle.ipnet.specs.NetworkParts.{AreSubnetsOfLength}
use Rattle.ipnet_bars.specs.declared.change.Change.{Change}
use Rattle.ipnet_bars.specs.declared.change.Change.TheVariants.{Unused, Unchanged, Removed, Added, Mixed}
use Rattle.ipnet_bars.specs.Parts.{HasNone, HasSome}

-- The address is in the first set, and not in the second.
abbrev pub IsOnlyIn : (Address → Type 0) → (Address → Type 0) → Address → Type 0
IsOnlyIn First Second x = First x × ¬ (Second x)

-- The change of the addresses of the block, if the set `Before` becomes the set `After`.
-- Example: from 10.0.0.0/30 to 10.0.0.2/31, 10.0.0.0/30 has the change `Removed`, 10.0.0.2/31 is `Unchanged`, and
-- 10.0.0.4/30 is `Unused`. From 10.0.0.0 to 10.0.0.1, 10.0.0.0/30 is `Mixed`.
abbrev pub IsChange : (Address → Type 0) → (Address → Type 0) → Network → Change → Type 0
IsChange Before After n Unused = HasNone Before n × HasNone After n
IsChange Before After n Unchanged = HasSome Before n × ((x : Address) → InBlock n x → Before x ↔ After x)
IsChange Before After n Removed = HasSome (IsOnlyIn Before After) n × HasNone (IsOnlyIn After Before) n
IsChange Before After n Added = HasSome (IsOnlyIn After Before) n × HasNone (IsOnlyIn Before After) n
IsChange Before After n Mixed = HasSome (IsOnlyIn Before After) n × HasSome (IsOnlyIn After Before) n

-- The list has the change of each subnet with this prefix length, in order.
-- Example: 10.0.0.0/29 and 30 have the changes `Removed` and `Unused` from 10.0.0.0/30 to 10.0.0.2/31.
pub record AreChangesOf (Before After : Address → Type 0) (n : Network) (prefix_len : ℕ) (changes : List Change)
    : Type 0 where
  pub cells : List Network
  pub subnets : AreSubnetsOfLength n prefix_len cells
  pub each : AllZip (IsChange Before After) cells changes
