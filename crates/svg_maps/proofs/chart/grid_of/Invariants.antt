-- After `i` squares the list has their rectangles.
use Rattle.std.proofs.Common.{◌≡◌, take}
use Rattle.svg_maps.specs.Pages.{grid_rectangles}
use Rattle.svg_maps.proofs.chart.grid_of.Given as goal

abbrev pub invariant-loop-square : goal.invariant-loop-square
invariant-loop-square l = l.rectangles.items ≡ grid_rectangles l.scale (take l.square-index l.squares)
