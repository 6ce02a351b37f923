use Rattle.std.proofs.Common.{sym, ◌∙◌}
use Rattle.netset_words.proofs.Separators.{few_none}
use Rattle.netset_words.proofs.host.has_signs.Goals as goal

pub returns-then-not-has_separator : goal.returns-then-not-has_separator
returns-then-not-has_separator c = λ off.
    few_none c.args.text.now (sym c.has_separator.ensures ∙ c.if-not-has_separator.true)
