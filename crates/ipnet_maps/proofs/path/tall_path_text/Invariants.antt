-- After i rectangles the text is the path of the tall ones.
use Rattle.std.proofs.Common.{take, filter, string_bytes}
use Rattle.ipnet_maps.specs.Paths.{corner, is_tall}
use Rattle.ipnet_maps.proofs.PathLaws.{IsDrawn}
use Rattle.ipnet_maps.proofs.path.tall_path_text.Given as goal

abbrev pub invariant-loop-rectangle : goal.invariant-loop-rectangle
invariant-loop-rectangle l =
    IsDrawn (filter is_tall (take l.rectangle-index l.rectangles)) corner (string_bytes l.text) l.pen
