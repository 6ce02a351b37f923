-- The lowest and the highest level.
use Rattle.std.proofs.Common.{◌≡◌, ℕ, ◌<◌, ◌↔◌, refl, arith}
use Rattle.std.proofs.lemmas.Nat.{pow_pos}
use Rattle.ipnet_base.specs.Address.{Address}
use Rattle.ipnet_base.specs.Network.{Network, host_bits}
use Rattle.ipnet_sets.specs.declared.set.IpSet.{IpSet}
use Rattle.ipnet_sets.specs.Members.{IsMember, IsCountOf}
use Rattle.ipnet_sets.specs.Parts.{IsInPart}
use Rattle.ipnet_bars.specs.Parts.{HasNone, HasAll, block_size}
use Rattle.ipnet_bars.proofs.PartLaws.{nothing_counted, all_counted}
use Rattle.ipnet_maps.specs.declared.level.Level.{Level}
use Rattle.ipnet_maps.specs.declared.level.Level.TheVariants.{Nothing, Sparse, BelowQuarter, FromQuarter, Whole}
use Rattle.ipnet_maps.specs.Levels.{IsShare}

nothing_level : (level : Level) (count size : ℕ) → 0 < size → IsShare level count size
    → (level ≡ Nothing) ↔ (count ≡ 0)
nothing_level Nothing count size some h = (λ e. h, λ e. refl)
nothing_level Sparse count size some h = (λ e. absurd (cc), λ e. absurd (omega (arith, h, e)))
nothing_level BelowQuarter count size some h = (λ e. absurd (cc), λ e. absurd (omega (arith, some, h, e)))
nothing_level FromQuarter count size some h = (λ e. absurd (cc), λ e. absurd (omega (arith, some, h, e)))
nothing_level Whole count size some h = (λ e. absurd (cc), λ e. absurd (omega (arith, some, h, e)))

whole_level : (level : Level) (count size : ℕ) → 0 < size → IsShare level count size
    → (level ≡ Whole) ↔ (count ≡ size)
whole_level Nothing count size some h = (λ e. absurd (cc), λ e. absurd (omega (arith, some, h, e)))
whole_level Sparse count size some h = (λ e. absurd (cc), λ e. absurd (omega (arith, h, e)))
whole_level BelowQuarter count size some h = (λ e. absurd (cc), λ e. absurd (omega (arith, some, h, e)))
whole_level FromQuarter count size some h = (λ e. absurd (cc), λ e. absurd (omega (arith, h, e)))
whole_level Whole count size some h = (λ e. h, λ e. refl)

-- the lowest level is for a block without an address of the set, and the highest for a block with all
pub nothing_shown : (InSet : Address → Type 0) (n : Network) (count : ℕ) (level : Level)
    → IsCountOf (IsInPart InSet n) count → IsShare level count (block_size n) → (level ≡ Nothing) ↔ HasNone InSet n
nothing_shown InSet n count level h share =
    let by_level = nothing_level level count (block_size n) (pow_pos (host_bits n)) share in
    let by_count = nothing_counted InSet n count h in (
      λ e. by_count.0 (by_level.0 e),
      λ none. by_level.1 (by_count.1 none),
    )

pub whole_shown : (s : IpSet) (n : Network) (count : ℕ) (level : Level)
    → IsCountOf (IsInPart (IsMember s) n) count → IsShare level count (block_size n)
    → (level ≡ Whole) ↔ HasAll (IsMember s) n
whole_shown s n count level h share =
    let by_level = whole_level level count (block_size n) (pow_pos (host_bits n)) share in
    let by_count = all_counted s n count h in (λ e. by_count.0 (by_level.0 e), λ all. by_level.1 (by_count.1 all))
