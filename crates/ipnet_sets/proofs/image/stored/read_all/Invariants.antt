use Rattle.std.proofs.Common.{◌≡◌, map, take}
use Rattle.ipnet_sets.specs.Images.{numbers_from}
use Rattle.ipnet_sets.proofs.image.stored.read_all.Given as goal

-- the numbers before the index are read
abbrev pub invariant-loop-index : goal.invariant-loop-index
invariant-loop-index g l = map g.T.Number.number l.numbers.items
    ≡ take l.index (numbers_from g.T.StoredNumber.width l.place.count l.bytes l.place.start)
