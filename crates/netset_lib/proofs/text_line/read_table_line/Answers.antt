use Rattle.std.proofs.Common.{refl, inl}
use Rattle.netset_lib.specs.TextSteps.{line_in}
use Rattle.netset_lib.specs.TextTables.{IsTextLine}
use Rattle.netset_lib.proofs.TextLineLaws.{some_read}
use Rattle.netset_lib.proofs.text_line.read_table_line.Goals as goal

pub read_after-requires : goal.read_after-requires
read_after-requires c = c.in-None.ensures.reads.none.0 refl

pub returns-in-Some : goal.returns-in-Some
returns-in-Some c =
    some_read line_in (IsTextLine c.args.grammar) c.args.contents.now _
    (inl (c.in-Some.ensures.reads.some, refl))
