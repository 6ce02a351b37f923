-- Walks: the networks that tile a range of addresses. Each is the largest that starts right after the one before it.
use Rattle.std.specs.Prelude.{◌≡◌, ℕ, ◌+◌, ◌^◌, ◌<◌, ◌≤◌, ◌⊎◌, min}
use Rattle.ipnet_base.specs.Address.{Family, IsBetween, family_index, greatest_number}
use Rattle.ipnet_base.specs.Network.{Network}
use Rattle.ipnet_base.specs.Blocks.{IsInside}

-- The network starts at `start`, its block ends at or before `end`, and its length is at least `min_prefix_len`.
-- Example: from 10.0.0.0 to 10.0.0.239, 10.0.0.0/25 and 10.0.0.0/26 do, and 10.0.0.0/24, which ends at 10.0.0.255, does
-- not.
pub record StartsAt (family : Family) (start end min_prefix_len : ℕ) (n : Network) : Type 0 where
  pub inside : IsInside (IsBetween family start end) min_prefix_len n
  pub of_family : n.family ≡ family
  pub at_start : n.number ≡ start

-- The largest network that `StartsAt` allows here: the one with the shortest prefix. It is the next network of a walk.
-- Example: from 10.0.0.0 to 10.0.0.239 it is 10.0.0.0/25 with minimum 0, and 10.0.0.0/26 with minimum 26.
pub record IsLargestSubnetAt (family : Family) (start end min_prefix_len : ℕ) (n : Network) : Type 0 where
  pub candidate : StartsAt family start end min_prefix_len n
  pub largest : (k : Network) → StartsAt family start end min_prefix_len k → n.prefix_len ≤ k.prefix_len

-- `b` is the number of host bits of the largest block with at most `distance + 1` addresses.
-- Example: 10.0.0.0 to 10.0.0.239 has distance 239; b is 7, because 2^7 = 128 ≤ 240 < 256 = 2^8.
abbrev pub IsMostBits : (distance b : ℕ) → Type 0
IsMostBits distance b = (2 ^ b ≤ distance + 1) × ((c : ℕ) → 2 ^ c ≤ distance + 1 → c ≤ b)

-- The contents of a walk: its family, the first and the last number that are left, and its minimum prefix length.
-- Example: 10.0.0.0 to 10.0.0.239 with minimum 26.
pub record SubnetRange : Type 0 where
  pub family : Family
  pub start : ℕ
  pub end : ℕ
  pub min_prefix_len : ℕ

-- The contents of a walk after a network whose block ended at `last`. The start is `last + 1`, at most the greatest
-- number. The end is 0 if the block ended at the greatest number or the old start was the end; otherwise it stays.
-- Example: 10.0.0.0 to 10.0.0.239 becomes 10.0.0.128 to 10.0.0.239 after 10.0.0.0/25. The range of 255.255.255.255
-- becomes 255.255.255.255 to 0.0.0.0, which is empty.
pub record IsAdvancedPast (last : ℕ) (old new : SubnetRange) : Type 0 where
  pub family : new.family ≡ old.family
  pub start : new.start ≡ min (last + 1) (greatest_number old.family)
  pub end_zero : (last ≡ greatest_number old.family) ⊎ (old.start ≡ old.end) → new.end ≡ 0
  pub end_same : last < greatest_number old.family → old.start < old.end → new.end ≡ old.end
  pub min_prefix_len : new.min_prefix_len ≡ old.min_prefix_len

-- The order of walks: IPv4 before IPv6, then by the stored start, the stored end and the minimum prefix length.
-- Example: 10.0.0.0 to 10.0.0.8 with minimum 24 comes before 10.0.0.0 to 10.0.0.9 with minimum 8.
abbrev pub IsWalkBefore : SubnetRange → SubnetRange → Type 0
IsWalkBefore r s = (family_index r.family < family_index s.family)
    ⊎ ((r.family ≡ s.family) × ((r.start < s.start)
    ⊎ ((r.start ≡ s.start) × ((r.end < s.end)
    ⊎ ((r.end ≡ s.end) × (r.min_prefix_len < s.min_prefix_len))))))
