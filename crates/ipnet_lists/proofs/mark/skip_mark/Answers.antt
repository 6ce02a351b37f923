use Rattle.std.proofs.Common.{sym, ap, ◌∙◌, drop, if◌then◌else◌}
use Rattle.ipnet_lists.proofs.CommentLaws.{behind}
use Rattle.ipnet_lists.proofs.mark.skip_mark.Goals as goal

pub returns-then-starts_with : goal.returns-then-starts_with
returns-then-starts_with c =
    let bytes = c.args.bytes.now in
    behind bytes 3
    ∙ ap (λ t. if t then drop 3 bytes else bytes) (sym c.if-starts_with.true ∙ c.starts_with.ensures.value)

pub returns-else-starts_with : goal.returns-else-starts_with
returns-else-starts_with c =
    let bytes = c.args.bytes.now in
    ap (λ t. if t then drop 3 bytes else bytes) (sym c.if-starts_with.false ∙ c.starts_with.ensures.value)
