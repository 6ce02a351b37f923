use Rattle.std.proofs.Common.{◌≡◌, ℕ, ◌-◌, ◌<◌, get_or}
use Rattle.ipnet_base.specs.Address.{greatest_number}
use Rattle.ipnet_sets.specs.Images.{numbers_from}
use Rattle.ipnet_sets.proofs.ImageLaws.{IsRising}
use Rattle.ipnet_sets.proofs.image.stored.are_boundaries.Given as goal

-- the numbers before the index ascend and fit, and the previous number is the last of them
abbrev pub invariant-loop-index : goal.invariant-loop-index
invariant-loop-index g l = record {
  rising : IsRising (greatest_number g.T.Number.family)
      (numbers_from g.T.StoredNumber.width l.place.count l.bytes l.place.start) l.index
      (g.T.Number.number l.previous);
  some : 0 < l.index;
  last : (d : ℕ) → get_or (numbers_from g.T.StoredNumber.width l.place.count l.bytes l.place.start) (l.index - 1) d
      ≡ g.T.Number.number l.previous;
}
