use Rattle.std.proofs.Common.{length}
use Rattle.ipnet_lists.specs.Lists.{after_mark}
use Rattle.netset_entries.specs.FindSteps.{search_of}
use Rattle.netset_entries.proofs.FindLaws.{SearchedBefore}
use Rattle.netset_entries.proofs.find.search_list.Given as goal

-- the lines before the rest are searched
abbrev pub invariant-lines : goal.invariant-lines
invariant-lines l =
    SearchedBefore (search_of l.fn.search) l.fn.name (after_mark l.fn.bytes) l.number l.rest l.found

abbrev pub decreases-lines : goal.decreases-lines
decreases-lines l = length l.rest
