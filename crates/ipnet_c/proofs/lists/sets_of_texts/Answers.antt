-- Each way out has a reason of `BadTexts`, or both sets.
use Rattle.std.proofs.Common.{ap, sym, subst, ◌∙◌, Err, IfErr}
use Rattle.std.proofs.lemmas.Result.{err_from_is_err_and}
use Rattle.ipnet.specs.Lines.{lines_of, AreNetworksOf}
use Rattle.ipnet.specs.declared.parser.Grammar.TheVariants.{Strict}
use Rattle.ipnet_c.specs.BadTexts.{IsBadList, AreBadTexts}
use Rattle.ipnet_c.proofs.BadTexts.{first_not_utf8, other_not_utf8, first_bad, other_bad_line, other_no_memory}
use Rattle.ipnet_c.proofs.lists.sets_of_texts.Goals as goal

pub returns-in_default-clause-bad : goal.returns-in_default-clause-bad
returns-in_default-clause-bad c =
    first_not_utf8 c.args.text.now c.args.other.now c.args.line.now c.in_default.ensures.cases.0

pub returns-in_default-from_utf8-clause-bad : goal.returns-in_default-from_utf8-clause-bad
returns-in_default-from_utf8-clause-bad c =
    let (same, utf8) = c.in-Ok.ensures.cases in
    other_not_utf8 c.args.text.now c.args.other.now c.args.line.now utf8 c.in_default-from_utf8.ensures.cases.0

pub returns-in_err-set-clause-bad : goal.returns-in_err-set-clause-bad
returns-in_err-set-clause-bad c =
    let (same, utf8) = c.in-Ok.ensures.cases in
    let (same_other, utf8_other) = c.in-Ok-from_utf8.ensures.cases in
    let old = c.args.line.now in
    let new = c.read_set.new.line in
    let given = c.in_err-set.field-0.0 in
    let (status, is, e) = err_from_is_err_and c.from_residual.result c.from_residual.ensures.1 in
    subst (λ r. IfErr r (AreBadTexts c.args.text.now c.args.other.now old new)) (sym (is ∙ ap Err e))
    (first_bad c.args.text.now c.args.other.now old new given utf8 utf8_other
    (subst (λ t. IsBadList Strict t old new given) same c.in_err-set.ensures.bad))

pub returns-in-Err-clause-bad : goal.returns-in-Err-clause-bad
returns-in-Err-clause-bad c =
    let (same, utf8) = c.in-Ok.ensures.cases in
    let (same_other, utf8_other) = c.in-Ok-from_utf8.ensures.cases in
    let old = c.args.line.now in
    let new = c.read_set-2.new.line in
    let given = c.in-Err.status in
    let (h, kept) = c.in_ok-set.ensures.set in
    let bad : IsBadList Strict c.args.other.now old new given =
    subst (λ l. IsBadList Strict c.args.other.now l new given) kept
    (subst (λ t. IsBadList Strict t c.read_set.new.line new given) same_other c.in-Err.ensures.bad) in
    other_bad_line c.args.text.now c.args.other.now old new given h.networks utf8 utf8_other
    (subst (λ t. AreNetworksOf Strict (lines_of t) h.networks) same h.written) bad c.if-status-eq-BAD_LINE.true

pub returns-clause-bad : goal.returns-clause-bad
returns-clause-bad c =
    let (same, utf8) = c.in-Ok.ensures.cases in
    let (same_other, utf8_other) = c.in-Ok-from_utf8.ensures.cases in
    let old = c.args.line.now in
    let new = c.read_set-2.new.line in
    let given = c.in-Err.status in
    let (h, kept) = c.in_ok-set.ensures.set in
    let bad : IsBadList Strict c.args.other.now old new given =
    subst (λ l. IsBadList Strict c.args.other.now l new given) kept
    (subst (λ t. IsBadList Strict t c.read_set.new.line new given) same_other c.in-Err.ensures.bad) in
    other_no_memory c.args.text.now c.args.other.now old new given h.networks utf8 utf8_other
    (subst (λ t. AreNetworksOf Strict (lines_of t) h.networks) same h.written) bad c.if-status-eq-BAD_LINE.false
