use Rattle.netset_lib.proofs.RuleAnswerLaws.{appended_here, appended_past}
use Rattle.netset_entries.specs.EntryLineOf.{numbered}
use Rattle.netset_entries.specs.EntryTexts.{entry_line}
use Rattle.netset_entries.proofs.lines.push_line_at.Goals as goal

pub returns-in-Some : goal.returns-in-Some
returns-in-Some c =
    appended_here entry_line numbered c.args.lines.now c.args.index c.in-Some.line.now c.args.text.now.items _
    c.push_line.result c.push_line.ensures c.in-Some.ensures.lookup.3.0 c.in-Some.ensures.lookup.1

pub returns-in-None : goal.returns-in-None
returns-in-None c =
    appended_past entry_line numbered c.args.lines.now c.args.index c.args.text.now.items c.in-None.ensures.lookup.3
