use Rattle.netset_words.proofs.line_filter.LineFilter.read_end.Goals as goal

pub returns-in-Kept : goal.returns-in-Kept
returns-in-Kept c = c.read_kept_end.ensures

pub returns-in-Printed : goal.returns-in-Printed
returns-in-Printed c = c.read_rest.ensures

pub returns-in-LeftOut : goal.returns-in-LeftOut
returns-in-LeftOut c = c.read_rest-in-LeftOut.ensures
