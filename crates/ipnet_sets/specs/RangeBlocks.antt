-- The networks of ranges: the maximal blocks of each range, one range after the other.
use Rattle.std.specs.Prelude.{◌<◌, ◌≤◌, ◌^◌, ◌⊎◌, List, [], ◌∷◌, ◌++◌}
use Rattle.std.proofs.Common.{inl, inr}
use Rattle.std.proofs.lemmas.Bool.{cases_lt}
use Rattle.ipnet_base.specs.Address.{width}
use Rattle.ipnet_base.specs.Network.{Network}
use Rattle.ipnet_base.specs.Ranges.{AddressRange}
use Rattle.ipnet_base.proofs.WalkLaws.{blocks_exist}

-- The maximal blocks of a range that ends in its family.
abbrev pub blocks_if : (r : AddressRange) → (r.end < 2 ^ width r.family) ⊎ (2 ^ width r.family ≤ r.end)
    → (width r.family < 0) ⊎ (0 ≤ width r.family) → List Network
blocks_if r (inl fits) (inr least) = (blocks_exist r.family r.start r.end 0 fits least).0
blocks_if r (inl fits) (inl never) = []
blocks_if r (inr over) least = []

-- The networks of a range: the one list of its maximal blocks. It is taken from the proof that this list exists.
-- Example: 10.0.0.0/30 and 10.0.0.4/31 for the range 10.0.0.0 to 10.0.0.5.
unfoldable pub range_blocks : AddressRange → List Network
range_blocks r = blocks_if r (cases_lt r.end (2 ^ width r.family)) (cases_lt (width r.family) 0)

-- The networks of the ranges, one range after the other.
-- Example: 10.0.0.0/31, 10.0.0.2/32 and 10.0.0.4/32 for the ranges 10.0.0.0 to 10.0.0.2 and 10.0.0.4 to 10.0.0.4.
abbrev pub blocks_of : List AddressRange → List Network
blocks_of [] = []
blocks_of (r ∷ ranges) = range_blocks r ++ blocks_of ranges
