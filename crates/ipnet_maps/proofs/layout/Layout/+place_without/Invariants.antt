-- Each call leaves out one more bit.
use Rattle.std.proofs.Common.{◌-◌}
use Rattle.ipnet_maps.proofs.layout.Layout.+place_without.Given as goal

abbrev pub decreases-place_without : goal.decreases-place_without
decreases-place_without l = l.self.depth - l.left_out
