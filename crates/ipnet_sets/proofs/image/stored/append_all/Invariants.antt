use Rattle.std.proofs.Common.{map, take}
use Rattle.ipnet_sets.specs.Images.{AreAppended}
use Rattle.ipnet_sets.proofs.image.stored.append_all.Given as goal

-- the numbers before the index are appended
abbrev pub invariant-loop-number : goal.invariant-loop-number
invariant-loop-number g l =
    AreAppended g.T.StoredNumber.width (map g.T.Number.number (take l.number-index l.numbers)) l.fn.bytes.items
    l.bytes.items
