-- A line that was decided by its front is not empty, so it is the last one.
use Rattle.std.proofs.Common.{◌≡◌, sym, ◌∙◌}
use Rattle.ipnet.specs.Lines.{lines_of}
use Rattle.ipnet_text.proofs.ListsLaws.{OnOk_then}
use Rattle.netset_words.specs.declared.line_filter.LineFilter.{LineFilter}
use Rattle.netset_words.specs.declared.line_filter.Rest.TheVariants as Rests
use Rattle.netset_words.specs.FilterSteps.{EndsLine, EndsLog}
use Rattle.netset_words.proofs.LogBytes.{one_line_left, is_something}
use Rattle.netset_words.proofs.line_filter.LineFilter.end.Goals as goal

passed : (old new : LineFilter) → (old.rest ≡ Rests.Kept → ⊥) → EndsLine old new → EndsLog old new
passed old new other ends how set written known bytes h =
    one_line_left how set written known bytes old h new
    (is_something how set written known (lines_of h.closed) h.cur old h.up_to (λ kept none. other kept))
    (ends how set written known (lines_of h.closed) h.cur h.up_to)

pub returns-in-Kept : goal.returns-in-Kept
returns-in-Kept c = c.end_kept_log.ensures

pub returns-in-Printed : goal.returns-in-Printed
returns-in-Printed c =
    OnOk_then c.end_line.result c.end_line.ensures
    (passed c.args.self.now c.end_line.new.self (λ kept. let clash = sym kept ∙ c.in-Printed.is in absurd cc))

pub returns-in-LeftOut : goal.returns-in-LeftOut
returns-in-LeftOut c =
    OnOk_then c.end_line-in-LeftOut.result c.end_line-in-LeftOut.ensures
    (passed c.args.self.now c.end_line-in-LeftOut.new.self
    (λ kept. let clash = sym kept ∙ c.in-LeftOut.is in absurd cc))
