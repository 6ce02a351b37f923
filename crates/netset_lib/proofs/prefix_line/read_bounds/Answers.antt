use Rattle.std.proofs.Common.{length, refl, sym, ap, ◌∙◌}
use Rattle.std.proofs.lemmas.Bool.{eqb-false}
use Rattle.netset_lib.proofs.PrefixLaws.{no_bounds}
use Rattle.netset_lib.proofs.prefix_line.read_bounds.Goals as goal

pub returns-in_err-le-clause-none : goal.returns-in_err-le-clause-none
returns-in_err-le-clause-none c = λ none.
    let text = c.args.text.now in
    no_bounds text
    (λ e. eqb-false (length text) 0 (sym c.is_empty.ensures ∙ c.if-is_empty.false) (ap length e))
    (c.in_default.ensures.none refl) (c.in_err-le.ensures.none refl)
