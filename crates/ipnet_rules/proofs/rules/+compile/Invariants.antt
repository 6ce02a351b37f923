-- Each half is shorter than the whole.
use Rattle.std.proofs.Common.{length}
use Rattle.ipnet_rules.proofs.rules.+compile.Given as goal

abbrev pub decreases-compile : goal.decreases-compile
decreases-compile l = length l.rules.now
