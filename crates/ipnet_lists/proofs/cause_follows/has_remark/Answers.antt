use Rattle.std.proofs.Common.{◌≡◌, ◌↔◌, IsTrue, ◌∙◌, ap, subst}
use Rattle.ipnet_lists.specs.Causes.{IsRemark, IsSomeEntry}
use Rattle.ipnet_lists.specs.Words.{after_leading, leading}
use Rattle.ipnet_lists.proofs.CauseTexts.{both}
use Rattle.ipnet_lists.proofs.cause_follows.has_remark.Goals as goal

pub returns-then-is_entry_word : goal.returns-then-is_entry_word
returns-then-is_entry_word c =
    let text = c.args.text.now in
    let first : c.leading_word.result.now ≡ leading text =
    c.leading_word.ensures ∙ ap leading c.as_bytes-text.ensures.value in
    let rest : c.after_leading.result.now ≡ after_leading text =
    c.after_leading.ensures ∙ ap after_leading c.as_bytes-text.ensures.value in
    let one = c.is_entry_word.result in
    let two = c.is_remark.result in
    both one two (subst (λ z. IsTrue one ↔ IsSomeEntry z) first c.is_entry_word.ensures) c.if-is_entry_word.true
    (subst (λ z. IsTrue two ↔ IsRemark z) rest c.is_remark.ensures)
