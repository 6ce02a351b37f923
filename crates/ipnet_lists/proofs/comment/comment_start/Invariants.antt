use Rattle.std.proofs.Common.{ℕ, ◌<◌}
use Rattle.ipnet_lists.specs.Comments.{Opens}
use Rattle.ipnet_lists.proofs.comment.comment_start.Given as goal

abbrev pub invariant-loop-index : goal.invariant-loop-index
invariant-loop-index l = (k : ℕ) → k < l.index → ¬ (Opens l.fn.line k)
