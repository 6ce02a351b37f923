use Rattle.std.proofs.Common.{◌+◌, ◌-◌, ◌∙◌, ap, drop, length, take}
use Rattle.ipnet_lists.specs.Lists.{without_blanks}
use Rattle.ipnet_lists.proofs.CommentLaws.{behind}
use Rattle.ipnet_lists.proofs.ListLines.{trimmed}
use Rattle.netset_entries.proofs.TitleLaws.{no_comment, some_comment}
use Rattle.netset_entries.proofs.noted.comment_of.Goals as goal

pub returns-then-start-line : goal.returns-then-start-line
returns-then-start-line c =
    no_comment c.args.line.now c.comment_start-start.result c.comment_start-start.ensures
    c.if-start-line.true

pub returns : goal.returns
returns c =
    let line = c.args.line.now in
    let from = c.comment_start-start.result + 1 in
    some_comment line _ c.comment_start-start.result c.comment_start-start.ensures
    (trimmed (take (length line - from) (drop from line)) c.trim_ascii.result.now
    c.trim_ascii.ensures.value ∙ ap without_blanks (behind line from))
