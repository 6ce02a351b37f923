use Rattle.std.proofs.Common.{length}
use Rattle.netset_words.proofs.ItemLaws.{IsItemsUpTo}
use Rattle.netset_words.proofs.line_items.read_items.Given as goal

-- the items up to the rest were read
abbrev pub invariant-items : goal.invariant-items
invariant-items l = IsItemsUpTo l.fn.request l.fn.line l.rest l.fn.answer.items l.answer.items l.state

abbrev pub decreases-items : goal.decreases-items
decreases-items l = length l.rest
