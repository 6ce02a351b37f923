-- An answer is the lines' networks, aggregated and printed (`answer_from`). Memory runs out neither for a text of empty
-- lines nor if the first line that is not empty is bad, as each step promises.
use Rattle.std.proofs.Common.{◌≡◌, ◌+◌, ◌∙◌, [], string_bytes, Err, sym, subst, ap, arith}
use Rattle.std.proofs.lemmas.Bool.{false≢true}
use Rattle.std.proofs.lemmas.Result.{err_from_is_err_and}
use Rattle.ipnet.specs.Lines.{lines_of, IsFirstBadLine}
use Rattle.ipnet_text.specs.LineTexts.{text_of_lines}
use Rattle.ipnet_tool.specs.Answers.{IsTextAnswer}
use Rattle.ipnet_text.specs.declared.networks.ToolError.TheVariants as ToolErrors
use Rattle.ipnet_text.specs.NetLists.{networks_of}
use Rattle.ipnet.specs.Blocks.{HaveSameCover}
use Rattle.ipnet_tool.proofs.AnswerLaws.{answer_from, answered, not_answered}
use Rattle.ipnet_tool.proofs.tool.aggregate_text_as.Goals as goal

pub returns-in_err-push_lines : goal.returns-in_err-push_lines
returns-in_err-push_lines c =
    let grammar = c.args.grammar in
    let text = c.args.text.now in
    let (error, is, same) = err_from_is_err_and c.from_residual.result c.from_residual.ensures.1 in
    let not = not_answered grammar text c.in_err-push_lines.field-0.0
    (λ h. false≢true (c.in_err-push_lines.ensures.empty h).0)
    (λ number e.
    let (later, is, bad) = c.in_err-push_lines.ensures.bad_line number (ap Err e) in
    let same : later ≡ number = omega (arith, is) in
    subst (IsFirstBadLine grammar (lines_of text)) same bad)
    (λ number h.
    let same = c.in_err-push_lines.ensures.bad_at_once number h in
    let from_start : 0 + number ≡ number = omega arith in
    cc) in
    subst (IsTextAnswer grammar text) (sym (is ∙ ap Err same)) not

pub returns-in_err-printed : goal.returns-in_err-printed
returns-in_err-printed c =
    let (error, is, same) = err_from_is_err_and c.from_residual-in_err-printed.result
    c.from_residual-in_err-printed.ensures.1 in
    subst (IsTextAnswer c.args.grammar c.args.text.now) (sym (is ∙ ap Err same))
    (not_answered c.args.grammar c.args.text.now ToolErrors.Memory
    (λ h. false≢true (c.in_err-printed.ensures.empty (c.aggregate.ensures.empty
    (ap networks_of (c.in_ok-push_lines.ensures.empty h).1 ∙ c.new-families.ensures))))
    (λ number e. absurd cc)
    (λ number h. let clash = c.in_ok-push_lines.ensures.bad_at_once number h in absurd cc))

pub returns : goal.returns
returns c =
    let grammar = c.args.grammar in
    let families = networks_of c.push_lines.new.sink in
    let (networks, written, made) = c.in_ok-push_lines.ensures.networks in
    let same : HaveSameCover networks families =
    made [] (subst (HaveSameCover []) (sym c.new-families.ensures) (λ x. (λ h. h, λ h. h))) in
    let spelled = c.in_ok-printed.ensures.text in
    answered grammar c.args.text.now c.in_ok-printed.field-0
    (λ h. spelled ∙ ap text_of_lines (c.aggregate.ensures.empty
    (ap networks_of (c.in_ok-push_lines.ensures.empty h).1 ∙ c.new-families.ensures)))
    (answer_from grammar c.args.text.now (string_bytes c.in_ok-printed.field-0) networks families
    (networks_of c.aggregate.new.self) written same c.aggregate.ensures.aggregate spelled)
    (λ number h. let clash = c.in_ok-push_lines.ensures.bad_at_once number h in absurd cc)
