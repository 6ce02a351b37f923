-- Each call has one comma less.
use Rattle.svg_maps.proofs.count.+push_grouped.Given as goal

abbrev pub decreases-push_grouped : goal.decreases-push_grouped
decreases-push_grouped l = l.commas
