-- More of a line that was decided by its front is printed if the front was.
use Rattle.std.proofs.Common.{refl, sym, ◌∙◌}
use Rattle.ipnet_text.proofs.ListsLaws.{OnOk_then}
use Rattle.netset_words.proofs.LogFilterLaws.{long_grows}
use Rattle.netset_words.proofs.line_filter.LineFilter.go_on.Goals as goal

pub returns-in-Kept : goal.returns-in-Kept
returns-in-Kept c = c.keep.ensures

pub returns-in-Printed : goal.returns-in-Printed
returns-in-Printed c =
    OnOk_then c.print_more.result c.print_more.ensures
    (λ text how set written known lines cur h.
    long_grows how set written known lines cur c.args.piece.now c.args.self.now _ h
    (record { request = refl; set = refl; line = refl }) text refl refl refl
    (λ kept. let clash = sym kept ∙ c.in-Printed.is in absurd cc) refl refl)

pub returns-in-LeftOut : goal.returns-in-LeftOut
returns-in-LeftOut c =
    OnOk_then c.print_more-in-LeftOut.result c.print_more-in-LeftOut.ensures
    (λ text how set written known lines cur h.
    long_grows how set written known lines cur c.args.piece.now c.args.self.now _ h
    (record { request = refl; set = refl; line = refl }) text refl refl refl
    (λ kept. let clash = sym kept ∙ c.in-LeftOut.is in absurd cc) refl refl)
