-- After i rectangles the text is their path.
use Rattle.std.proofs.Common.{take, string_bytes}
use Rattle.ipnet_maps.specs.Paths.{corner}
use Rattle.ipnet_maps.proofs.PathLaws.{IsDrawn}
use Rattle.ipnet_maps.proofs.path.path_text.Given as goal

abbrev pub invariant-loop-rectangle : goal.invariant-loop-rectangle
invariant-loop-rectangle l = IsDrawn (take l.rectangle-index l.rectangles) corner (string_bytes l.text) l.from
