use Rattle.std.proofs.Common.{◌++◌}
use Rattle.ipnet_text.proofs.ListsLaws.{OnOk_then}
use Rattle.netset_words.proofs.line_filter.LineFilter.read_rest.Goals as goal

pub returns : goal.returns
returns c =
    OnOk_then c.end_line.result c.end_line.ensures
    (λ ends how set written known lines cur h. ends how set written known lines (cur ++ c.args.piece.now)
    (c.in_ok-go_on.ensures how set written known lines cur h))
