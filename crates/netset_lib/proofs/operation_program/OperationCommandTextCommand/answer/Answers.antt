use Rattle.std.proofs.Common.{string_bytes}
use Rattle.ipnet_sets.specs.Members.{IsMember}
use Rattle.netset_lib.specs.Combinations.{IsInCombined}
use Rattle.netset_lib.proofs.AnswerTexts.{text_of_same}
use Rattle.netset_lib.proofs.operation_program.OperationCommandTextCommand.answer.Goals as goal

pub returns-clause-text : goal.returns-clause-text
returns-clause-text c =
    let of = c.in_ok-set.ensures.combined in (
      of.0,
      text_of_same c.args.self.form (IsMember c.in_ok-set.set) (IsInCombined c.args.self.combination)
          (string_bytes c.in_ok-text.text) of.1 c.in_ok-text.ensures,
    )
