use Rattle.std.proofs.Common.{sym, ◌∙◌}
use Rattle.ipnet_sets.proofs.SetEqualLaws.{equal_by_addresses}
use Rattle.netset_lib.proofs.counts_program.CompareCommandTextCommand.answer.Goals as goal

pub returns-clause-outcome : goal.returns-clause-outcome
returns-clause-outcome c =
    let by = equal_by_addresses c.args.self.first c.args.self.second in
    (λ yes. by.0 (sym c.eq.ensures ∙ yes), λ same. c.eq.ensures ∙ by.1 same)
