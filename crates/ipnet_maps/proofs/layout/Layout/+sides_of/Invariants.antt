-- Each call has one bit less.
use Rattle.ipnet_maps.proofs.layout.Layout.+sides_of.Given as goal

abbrev pub decreases-sides_of : goal.decreases-sides_of
decreases-sides_of l = l.count
