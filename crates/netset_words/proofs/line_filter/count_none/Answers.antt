use Rattle.netset_words.proofs.line_filter.count_none.Goals as goal

pub returns-in-NoEntry : goal.returns-in-NoEntry
returns-in-NoEntry c = rw c.in-NoEntry.is c.next_number.ensures.next
