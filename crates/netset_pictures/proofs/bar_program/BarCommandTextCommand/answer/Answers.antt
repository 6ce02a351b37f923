use Rattle.std.proofs.Common.{Err, ap, ◌∙◌}
use Rattle.netset_pictures.proofs.bar_program.BarCommandTextCommand.answer.Goals as goal

pub returns-in-Ok-framed_bar_text-clause-text : goal.returns-in-Ok-framed_bar_text-clause-text
returns-in-Ok-framed_bar_text-clause-text c =
    (c.in-Ok.set, c.in-Ok.ensures.combined.1, c.in-Ok-framed_bar_text.ensures.bar)

pub returns-clause-failure : goal.returns-clause-failure
returns-clause-failure c = λ e.
    (c.in-Ok.set, c.in-Ok.ensures.combined.1, c.framed_bar_text.ensures.none (c.in-Err.is ∙ ap Err e))
