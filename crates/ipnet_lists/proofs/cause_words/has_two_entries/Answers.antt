use Rattle.std.proofs.Common.{◌≡◌, ◌↔◌, IsTrue, ◌∙◌, ap, subst}
use Rattle.ipnet_lists.specs.Causes.{IsSomeEntry}
use Rattle.ipnet_lists.specs.Words.{leading, second_word}
use Rattle.ipnet_lists.proofs.CauseTexts.{both}
use Rattle.ipnet_lists.proofs.cause_words.has_two_entries.Goals as goal

pub returns-then-is_entry_word : goal.returns-then-is_entry_word
returns-then-is_entry_word c =
    let text = c.args.text.now in
    let first : c.leading_word.result.now ≡ leading text =
    c.leading_word.ensures ∙ ap leading c.as_bytes-text.ensures.value in
    let second : c.second_word.result.now ≡ second_word text =
    c.second_word.ensures ∙ ap second_word c.as_bytes-text.ensures.value in
    let one = c.is_entry_word.result in
    let two = c.is_entry_word-then-is_entry_word.result in
    both one two (subst (λ z. IsTrue one ↔ IsSomeEntry z) first c.is_entry_word.ensures) c.if-is_entry_word.true
    (subst (λ z. IsTrue two ↔ IsSomeEntry z) second c.is_entry_word-then-is_entry_word.ensures)
