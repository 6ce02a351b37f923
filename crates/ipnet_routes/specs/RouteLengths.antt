-- The private steps of the prefix lengths that a map of routes knows: bits in a mask for each few regions of addresses.
-- Only private contracts use these.
use Rattle.std.specs.Prelude.{◌≡◌, ℕ, ◌-◌, ◌/◌, ◌^◌, ◌<◌, min, max, List, length, get_or, Contains}
use Rattle.std.specs.Int.{bit_at}
use Rattle.ipnet_base.specs.Address.{Family, IPv4, IPv6, Address}
use Rattle.ipnet_base.specs.Network.{Network, InBlock}

-- The region of a number. Example: 10.1.2.3 is in region 2561, `2001:db8::` in 65600, and `fe80::` in 131071.
abbrev pub region_at : Family → ℕ → ℕ
region_at IPv4 number = number / 2 ^ 16
region_at IPv6 number = max (min (number / 2 ^ 109) 131071) 65536

abbrev pub region_of : Address → ℕ
region_of x = region_at x.family x.number

-- The mask has the length: length 127 is its lowest bit.
abbrev pub HasLength : ℕ → ℕ → Type 0
HasLength mask l = bit_at mask (127 - l) ≡ 1

-- The mask of each region that the network reaches into has the length of the network.
pub record IsKnown (masks : List ℕ) (width : ℕ) (k : Network) : Type 0 where
  pub masked : (x : Address) → InBlock k x → k.prefix_len < 128 → region_of x / width < length masks
      → HasLength (get_or masks (region_of x / width) 0) k.prefix_len

-- The lengths of all these networks are known.
pub record AreKnown (masks : List ℕ) (width : ℕ) (networks : List Network) : Type 0 where
  pub each : (k : Network) → Contains networks k → IsKnown masks width k
