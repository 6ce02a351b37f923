use Rattle.std.proofs.Common.{◌≡◌, inr, rules, subst}
use Rattle.ipnet_lists.specs.Causes.{IsReportedCause}
use Rattle.ipnet_lists.proofs.CauseOrder.{reported_none}
use Rattle.ipnet_lists.proofs.CauseTexts.{reported_no_entry}
use Rattle.ipnet_lists.proofs.ListLines.{entry_utf8}
use Rattle.ipnet_lists.proofs.cause.cause_of.Goals as goal

pub returns-in-Ok-clause-reported : goal.returns-in-Ok-clause-reported
returns-in-Ok-clause-reported c =
    let same : c.in-Ok.text.now ≡ c.args.text.now = search rules in
    subst (λ t. IsReportedCause c.args.grammar t c.cause_in_text.result) same c.cause_in_text.ensures

pub returns-in-Ok-clause-no_entry : goal.returns-in-Ok-clause-no_entry
returns-in-Ok-clause-no_entry c =
    let grammar = c.args.grammar in
    let same : c.in-Ok.text.now ≡ c.args.text.now = search rules in
    reported_no_entry grammar c.args.text.now c.cause_in_text.result
    (subst (λ t. IsReportedCause grammar t c.cause_in_text.result) same c.cause_in_text.ensures)

pub returns-in-Ok-clause-none : goal.returns-in-Ok-clause-none
returns-in-Ok-clause-none c =
    let grammar = c.args.grammar in
    let same : c.in-Ok.text.now ≡ c.args.text.now = search rules in
    reported_none grammar c.args.text.now c.cause_in_text.result
    (subst (λ t. IsReportedCause grammar t c.cause_in_text.result) same c.cause_in_text.ensures)

-- bytes that are not UTF-8 are no entry
pub returns-in-Err-clause-reported : goal.returns-in-Err-clause-reported
returns-in-Err-clause-reported c =
    inr (
      λ range is. c.in-Err.ensures.cases.0 (entry_utf8 c.args.grammar c.args.text.now range is),
      c.cause_in_bytes.ensures,
    )

pub returns-in-Err-clause-no_entry : goal.returns-in-Err-clause-no_entry
returns-in-Err-clause-no_entry c = λ range is.
    c.in-Err.ensures.cases.0 (entry_utf8 c.args.grammar c.args.text.now range is)
