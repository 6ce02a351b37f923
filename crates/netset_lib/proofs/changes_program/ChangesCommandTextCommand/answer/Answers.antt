use Rattle.std.proofs.Common.{sym, ◌∙◌}
use Rattle.ipnet_sets.proofs.SetEqualLaws.{equal_by_addresses}
use Rattle.netset_lib.proofs.changes_program.ChangesCommandTextCommand.answer.Goals as goal

pub returns-clause-outcome : goal.returns-clause-outcome
returns-clause-outcome c =
    let by = equal_by_addresses c.args.self.before c.args.self.after in
    (λ yes. by.0 (sym c.eq.ensures ∙ yes), λ same. c.eq.ensures ∙ by.1 same)
