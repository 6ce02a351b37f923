-- Netmasks and host masks as numbers (RFC 4632, section 3.1).
use Rattle.std.specs.Prelude.{◌≡◌, ℕ, ◌-◌, ◌^◌, ◌≤◌}
use Rattle.ipnet_base.specs.Address.{Family, width}

-- The netmask of a prefix length: `prefix_len` ones, then zeros.
-- Example: IPv4 and 20 give 2^32 - 2^12 = 4294963200, which is 255.255.240.0.
abbrev pub netmask_number : Family → ℕ → ℕ
netmask_number family prefix_len = 2 ^ width family - 2 ^ (width family - prefix_len)

-- The host mask of a prefix length: `prefix_len` zeros, then ones.
-- Example: IPv4 and 20 give 2^12 - 1 = 4095, which is 0.0.15.255.
abbrev pub hostmask_number : Family → ℕ → ℕ
hostmask_number family prefix_len = 2 ^ (width family - prefix_len) - 1

-- The number is the netmask of this prefix length, which fits in the family.
-- Example: 255.255.240.0 is the IPv4 netmask of 20. 255.0.255.0 is not a netmask: 2^32 minus its number is 16711936,
-- which is not a power of two.
pub record IsNetmaskOf (family : Family) (number prefix_len : ℕ) : Type 0 where
  pub fits : prefix_len ≤ width family
  pub is_mask : number ≡ netmask_number family prefix_len
