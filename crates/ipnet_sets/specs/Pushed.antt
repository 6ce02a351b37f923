-- The addresses of a value of `IpSetBuilder`. Contracts see nothing else of a value.
use Rattle.std.specs.Prelude.{ℕ}
use Rattle.ipnet_base.specs.Address.{Family, IPv4, IPv6, Address, IsAddress}
use Rattle.ipnet_sets.specs.declared.set.builder.IpSetBuilder.{IpSetBuilder}
use Rattle.ipnet_sets.specs.Gather.{IsHeld}

-- The number of the family is in the set of the ranges that came in order, or in a range that waits.
abbrev pub IsHeldOf : IpSetBuilder → Family → ℕ → Type 0
IsHeldOf b IPv4 = IsHeld (λ n. n) b.ipv4.items b.ipv4_waiting.items
IsHeldOf b IPv6 = IsHeld (λ n. n) b.ipv6.items b.ipv6_waiting.items

-- The address is valid, and in one of the ranges that the builder was given.
-- Example: 10.0.0.5 after `push_network` of 10.0.0.4/30.
pub record IsPushed (b : IpSetBuilder) (x : Address) : Type 0 where
  pub fits : IsAddress x
  pub held : IsHeldOf b x.family x.number
