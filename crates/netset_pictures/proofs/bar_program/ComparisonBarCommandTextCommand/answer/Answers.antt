use Rattle.std.proofs.Common.{Err, ap, sym, ◌∙◌}
use Rattle.ipnet_sets.proofs.SetEqualLaws.{equal_by_addresses}
use Rattle.netset_pictures.proofs.bar_program.ComparisonBarCommandTextCommand.answer.Goals as goal

pub returns-clause-failure : goal.returns-clause-failure
returns-clause-failure c = λ e. c.framed_comparison_text.ensures.none (c.in-Err.is ∙ ap Err e)

pub returns-in-Ok-clause-outcome : goal.returns-in-Ok-clause-outcome
returns-in-Ok-clause-outcome c =
    let by = equal_by_addresses c.args.self.before c.args.self.after in
    (λ yes. by.0 (sym c.eq.ensures ∙ yes), λ same. c.eq.ensures ∙ by.1 same)
