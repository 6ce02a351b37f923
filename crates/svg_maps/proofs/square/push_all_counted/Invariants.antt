-- After `i` sets the text has their counts.
use Rattle.std.proofs.Common.{◌≡◌, ◌++◌, ℕ, List, take, string_bytes}
use Rattle.ipnet.specs.NetworkOf.{ip_network}
use Rattle.svg_maps.specs.Squares.{AreCountTexts}
use Rattle.svg_maps.proofs.square.push_all_counted.Given as goal

abbrev pub invariant-loop-one : goal.invariant-loop-one
invariant-loop-one l = (more : List ℕ) × AreCountTexts (ip_network l.network) (take l.one-index l.counted) more
    × (string_bytes l.text ≡ string_bytes l.fn.text ++ more)
