use Rattle.std.proofs.Common.{◌-◌, ap, ◌∙◌, drop, length, take}
use Rattle.std.proofs.lemmas.Str.Ascii.{trim_ascii_start_is}
use Rattle.ipnet_lists.specs.Entries.{after_blanks}
use Rattle.ipnet_lists.proofs.CommentLaws.{behind}
use Rattle.ipnet_lists.proofs.cause_follows.behind_blanks.Goals as goal

pub returns : goal.returns
returns c =
    let bytes = c.args.bytes.now in
    let index = c.args.index in
    trim_ascii_start_is (take (length bytes - index) (drop index bytes)) c.trim_ascii_start.result.now
    c.trim_ascii_start.ensures.value
    ∙ ap after_blanks (behind bytes index)
