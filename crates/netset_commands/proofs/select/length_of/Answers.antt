-- The word of the option is this prefix length.
use Rattle.std.proofs.Common.{◌∙◌, refl, sym, ap, option_map}
use Rattle.netset_commands.proofs.select.length_of.Goals as goal

pub returns-in-Some-length_or_report-clause-length : goal.returns-in-Some-length_or_report-clause-length
returns-in-Some-length_or_report-clause-length c = (
  c.in-Some.word.now,
  sym c.get_str.ensures ∙ ap (option_map (λ s. s.now)) c.in-Some.is,
  (c.in-Some-length_or_report.ensures c.in-Some-length_or_report.length).0 refl,
)
