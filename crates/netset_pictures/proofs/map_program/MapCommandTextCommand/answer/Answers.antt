use Rattle.std.proofs.Common.{Err, ap, ◌∙◌}
use Rattle.netset_pictures.proofs.map_program.MapCommandTextCommand.answer.Goals as goal

pub returns-clause-failure : goal.returns-clause-failure
returns-clause-failure c = λ e. c.framed_map_text.ensures.none (c.in-Err.is ∙ ap Err e)
