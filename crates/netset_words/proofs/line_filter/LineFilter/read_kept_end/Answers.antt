use Rattle.std.proofs.Common.{arith}
use Rattle.netset_words.proofs.LogEntryLaws.{no_items}
use Rattle.netset_words.proofs.line_filter.LineFilter.read_kept_end.Goals as goal

pub read_whole-requires-clause-short : goal.read_whole-requires-clause-short
read_whole-requires-clause-short c = c.if-piece-le-MOST_FRONT.true

pub read_whole-requires-clause-kept : goal.read_whole-requires-clause-kept
read_whole-requires-clause-kept c = c.requires

pub read_whole-requires-clause-none : goal.read_whole-requires-clause-none
read_whole-requires-clause-none c =
    no_items c.args.self.now.front.items (omega (arith, c.len.ensures, c.if-len-eq0.true))

pub returns-then-piece-le-MOST_FRONT : goal.returns-then-piece-le-MOST_FRONT
returns-then-piece-le-MOST_FRONT c = c.read_whole.ensures

pub returns : goal.returns
returns c = c.read_rest.ensures
