-- The text is the picture that was drawn.
use Rattle.std.proofs.Common.{rules}
use Rattle.ipnet_c.proofs.drawn.write_picture.Goals as goal

pub returns-in-Ok-Some-clause-ok : goal.returns-in-Ok-Some-clause-ok
returns-in-Ok-Some-clause-ok c = λ e. (c.in-Ok-Some.text, search rules, search rules)

pub returns-in-Ok-Some-clause-too_short : goal.returns-in-Ok-Some-clause-too_short
returns-in-Ok-Some-clause-too_short c = λ e. (c.in-Ok-Some.text, search rules, search rules)
