use Rattle.std.proofs.Common.{ap, ◌∙◌, drop}
use Rattle.ipnet_lists.proofs.CommentLaws.{behind}
use Rattle.ipnet_lists.proofs.cause_follows.from_dash.Goals as goal

pub returns : goal.returns
returns c =
    behind c.args.text.now c.dash_start.result
    ∙ ap (λ n. drop n c.args.text.now) c.dash_start.ensures.index
