-- The costs so far are above what is allowed.
use Rattle.std.proofs.Common.{◌<◌, ℕ, get_or}
use Rattle.ipnet_shortest.proofs.shares.first_within.Given as goal

abbrev pub invariant-loop-index : goal.invariant-loop-index
invariant-loop-index l = (i : ℕ) → i < l.index → l.most < get_or l.costs i 0
