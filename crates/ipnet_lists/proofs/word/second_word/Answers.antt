use Rattle.std.proofs.Common.{ap, ◌∙◌}
use Rattle.ipnet_lists.specs.Words.{leading}
use Rattle.ipnet_lists.proofs.word.second_word.Goals as goal

pub returns : goal.returns
returns c = c.leading_word.ensures ∙ ap leading c.after_leading.ensures
