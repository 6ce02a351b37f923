-- The word of the option is this number.
use Rattle.std.proofs.Common.{◌∙◌, sym, ap, option_map}
use Rattle.netset_commands.proofs.fit.number_of.Goals as goal

pub returns-in-Some-read_number-clause-number : goal.returns-in-Some-read_number-clause-number
returns-in-Some-read_number-clause-number c = (
  c.in-Some.word.now,
  sym c.get_str.ensures ∙ ap (option_map (λ s. s.now)) c.in-Some.is,
  (c.read_number.ensures c.in-Some-read_number.number).0 c.in-Some-read_number.is,
)
