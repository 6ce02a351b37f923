-- The networks for the addresses of the union.
use Rattle.netset_entries.proofs.FitLaws.{reason_of}
use Rattle.netset_entries.proofs.fit_program.FitCommand.answer.Goals as goal

pub returns-in-Ok-fit_text-clause-text : goal.returns-in-Ok-fit_text-clause-text
returns-in-Ok-fit_text-clause-text c =
    (c.in-Ok.set, c.in-Ok.ensures.combined.1, c.in-Ok-fit_text.ensures.text)

pub returns-clause-failure : goal.returns-clause-failure
returns-clause-failure c =
    reason_of c.args.self c.in-Ok.set c.in-Err.failure c.in-Ok.ensures.combined.1 c.in-Err.ensures.failure
