-- Each call has two bits less.
use Rattle.ipnet_maps.proofs.drawing.+draw_to.Given as goal

abbrev pub decreases-draw_to : goal.decreases-draw_to
decreases-draw_to l = l.depth
