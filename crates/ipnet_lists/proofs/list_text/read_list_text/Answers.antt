-- The lines are read from the first to the last, and the set is made of what was collected.
use Rattle.ipnet_lists.proofs.ListTexts.{whole_list}
use Rattle.ipnet_lists.proofs.list_text.read_list_text.Goals as goal

pub returns : goal.returns
returns c =
    whole_list c.args.grammar c.args.bytes.now c.skip_mark.result.now c.new-lines.result c.read.new.self
    c.new-builder.result c.read.new.made c.in_ok-set.set c.new-lines.ensures.grammar c.new-lines.ensures.first
    c.new-lines.ensures.line c.new-lines.ensures.none c.skip_mark.ensures c.in_ok-read.ensures c.new-builder.ensures
    c.in_ok-set.ensures.members
