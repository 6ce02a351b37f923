-- The levels of a set and of a larger set.
use Rattle.std.proofs.Common.{ℕ, ◌-◌, ◌<◌, ◌≤◌, arith}
use Rattle.std.proofs.lemmas.Nat.{pow_pos}
use Rattle.ipnet_base.specs.Address.{Address, width}
use Rattle.ipnet_base.specs.Network.{Network}
use Rattle.ipnet_maps.specs.declared.level.Level.{Level}
use Rattle.ipnet_maps.specs.declared.level.Level.TheVariants.{Nothing, Sparse, BelowQuarter}
use Rattle.ipnet_maps.specs.declared.level.Level.TheVariants.{FromQuarter, Whole}
use Rattle.ipnet_sets.specs.Parts.{IsInPart}
use Rattle.ipnet_bars.specs.Parts.{block_size}
use Rattle.ipnet_maps.specs.Levels.{IsShare, IsLevelOf}
use Rattle.ipnet_bars.proofs.PartLaws.{no_more, part_fits}
use Rattle.ipnet_maps.specs.Levels.{place_of}

-- more addresses of a block have no lower level
share_order : (l k : Level) (m n size : ℕ) → 0 < size → m ≤ n → n ≤ size → IsShare l m size → IsShare k n size
    → place_of l ≤ place_of k
share_order Nothing Nothing m n size some le fits a b = omega arith
share_order Nothing Sparse m n size some le fits a b = omega arith
share_order Nothing BelowQuarter m n size some le fits a b = omega arith
share_order Nothing FromQuarter m n size some le fits a b = omega arith
share_order Nothing Whole m n size some le fits a b = omega arith
share_order Sparse Nothing m n size some le fits a b = absurd (omega (arith, some, le, fits, a, b))
share_order Sparse Sparse m n size some le fits a b = omega arith
share_order Sparse BelowQuarter m n size some le fits a b = omega arith
share_order Sparse FromQuarter m n size some le fits a b = omega arith
share_order Sparse Whole m n size some le fits a b = omega arith
share_order BelowQuarter Nothing m n size some le fits a b = absurd (omega (arith, some, le, fits, a, b))
share_order BelowQuarter Sparse m n size some le fits a b = absurd (omega (arith, some, le, fits, a, b))
share_order BelowQuarter BelowQuarter m n size some le fits a b = omega arith
share_order BelowQuarter FromQuarter m n size some le fits a b = omega arith
share_order BelowQuarter Whole m n size some le fits a b = omega arith
share_order FromQuarter Nothing m n size some le fits a b = absurd (omega (arith, some, le, fits, a, b))
share_order FromQuarter Sparse m n size some le fits a b = absurd (omega (arith, some, le, fits, a, b))
share_order FromQuarter BelowQuarter m n size some le fits a b = absurd (omega (arith, some, le, fits, a, b))
share_order FromQuarter FromQuarter m n size some le fits a b = omega arith
share_order FromQuarter Whole m n size some le fits a b = omega arith
share_order Whole Nothing m n size some le fits a b = absurd (omega (arith, some, le, fits, a, b))
share_order Whole Sparse m n size some le fits a b = absurd (omega (arith, some, le, fits, a, b))
share_order Whole BelowQuarter m n size some le fits a b = absurd (omega (arith, some, le, fits, a, b))
share_order Whole FromQuarter m n size some le fits a b = absurd (omega (arith, some, le, fits, a, b))
share_order Whole Whole m n size some le fits a b = omega arith

pub level_order : (A B : Address → Type 0) (n : Network) (l k : Level) → ((x : Address) → A x → B x)
    → IsLevelOf A n l → IsLevelOf B n k → place_of l ≤ place_of k
level_order A B n l k within a b =
    share_order l k a.count b.count (block_size n) (pow_pos (width n.family - n.prefix_len))
    (no_more (IsInPart A n) (IsInPart B n) a.count b.count
    (λ x i. record { in_block = i.in_block; in_set = within x i.in_set }) a.is_count b.is_count)
    (part_fits B n b.count b.is_count) a.share b.share
