use Rattle.ipnet_lists.specs.EntryOf.{entry_range}
use Rattle.netset_entries.proofs.ChoiceLaws.{bounds_decided, bounds_failed}
use Rattle.netset_entries.proofs.choice.is_in_bounds.Goals as goal

pub returns-in-Some-prefix_len_of : goal.returns-in-Some-prefix_len_of
returns-in-Some-prefix_len_of c =
    bounds_decided c.args.lengths c.in-Some.bounds (entry_range c.args.entry) c.in-Some.is c.in-Some-prefix_len_of.len
    c.is_between.result c.in-Some-prefix_len_of.ensures.some c.is_between.ensures

pub returns-in-None : goal.returns-in-None
returns-in-None c =
    bounds_failed c.args.lengths c.in-Some.bounds (entry_range c.args.entry) c.in-Some.is c.in-None.ensures.none
