use Rattle.std.proofs.Common.{length}
use Rattle.ipnet_sets.proofs.set.IpSet.+intersection_all.Given as goal

abbrev pub decreases-intersection_all : goal.decreases-intersection_all
decreases-intersection_all l = length l.sets.now
