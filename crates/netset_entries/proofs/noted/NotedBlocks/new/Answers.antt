use Rattle.std.proofs.Common.{refl}
use Rattle.netset_entries.proofs.NotedBlockLaws.{nothing_kept}
use Rattle.netset_entries.proofs.noted.NotedBlocks.new.Goals as goal

pub returns : goal.returns
returns c = nothing_kept c.args.grammar c.args.frame _ refl refl c.in_ok-new.ensures c.in_ok-new-2.ensures
