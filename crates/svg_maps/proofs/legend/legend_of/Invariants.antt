-- After `i` layers the legend has their rows.
use Rattle.std.proofs.Common.{◌≡◌, map, take}
use Rattle.svg_maps.specs.Legends.{row_of, legend_rows}
use Rattle.svg_maps.proofs.legend.legend_of.Given as goal

abbrev pub invariant-loop-layer : goal.invariant-loop-layer
invariant-loop-layer l =
    map row_of l.swatches.items ≡ legend_rows (map (λ n. n.now) l.names) (take l.layer-index l.layers)
