-- After i rectangles the text is the path of the rows.
use Rattle.std.proofs.Common.{take, filter, string_bytes}
use Rattle.ipnet_maps.specs.Paths.{is_row}
use Rattle.ipnet_maps.proofs.LineLaws.{AreLines}
use Rattle.ipnet_maps.proofs.path.rows_path_text.Given as goal

abbrev pub invariant-loop-rectangle : goal.invariant-loop-rectangle
invariant-loop-rectangle l =
    AreLines (filter is_row (take l.rectangle-index l.rectangles)) (string_bytes l.text) l.pen
