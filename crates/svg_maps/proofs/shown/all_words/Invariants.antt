-- After `i` names there are the words of these names.
use Rattle.std.proofs.Common.{◌≡◌, map, take, string_bytes}
use Rattle.svg_maps.specs.Maps.{list_words}
use Rattle.svg_maps.proofs.shown.all_words.Given as goal

abbrev pub invariant-loop-name : goal.invariant-loop-name
invariant-loop-name l =
    map string_bytes l.list.items ≡ map (λ name. list_words name.now) (take l.name-index l.names)
