use Rattle.std.proofs.Common.{ap, ◌∙◌}
use Rattle.ipnet_lists.specs.Words.{from_word}
use Rattle.ipnet_lists.proofs.comment.comment_text.Goals as goal

pub returns : goal.returns
returns c = c.from_word.ensures ∙ ap from_word c.before_hash.ensures
