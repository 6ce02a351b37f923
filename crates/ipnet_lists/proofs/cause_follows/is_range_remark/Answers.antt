use Rattle.std.proofs.Common.{◌≡◌, ◌↔◌, IsTrue, ◌∙◌, ap, subst}
use Rattle.std.proofs.lemmas.Str.Ascii.{trim_ascii_end_is}
use Rattle.ipnet_lists.specs.Causes.{AreEnds, IsRemark}
use Rattle.ipnet_lists.specs.Entries.{after_blanks, before_blanks}
use Rattle.ipnet_lists.specs.Words.{after_leading, leading}
use Rattle.ipnet_lists.proofs.CauseTexts.{both, first_fails}
use Rattle.ipnet_lists.proofs.cause_follows.is_range_remark.Goals as goal

pub returns-then-are_ends : goal.returns-then-are_ends
returns-then-are_ends c =
    let front = c.args.front.now in
    let back = after_blanks c.args.back.now in
    let start : c.behind_blanks-back.result.now ≡ back =
    c.behind_blanks-back.ensures ∙ ap after_blanks c.as_bytes.ensures.value in
    let first : c.trim_ascii_end.result.now ≡ before_blanks front =
    trim_ascii_end_is front c.trim_ascii_end.result.now c.trim_ascii_end.ensures.value in
    let last : c.leading_word.result.now ≡ leading back = c.leading_word.ensures ∙ ap leading start in
    let rest : c.after_leading.result.now ≡ after_leading back =
    c.after_leading.ensures ∙ ap after_leading start in
    let one = c.are_ends.result in
    let two = c.is_remark.result in
    both one two
    (subst (λ z. IsTrue one ↔ AreEnds z (leading back)) first
    (subst (λ z. IsTrue one ↔ AreEnds c.trim_ascii_end.result.now z) last c.are_ends.ensures))
    c.if-are_ends.true (subst (λ z. IsTrue two ↔ IsRemark z) rest c.is_remark.ensures)

pub returns-else-are_ends : goal.returns-else-are_ends
returns-else-are_ends c =
    let front = c.args.front.now in
    let back = after_blanks c.args.back.now in
    let start : c.behind_blanks-back.result.now ≡ back =
    c.behind_blanks-back.ensures ∙ ap after_blanks c.as_bytes.ensures.value in
    let first : c.trim_ascii_end.result.now ≡ before_blanks front =
    trim_ascii_end_is front c.trim_ascii_end.result.now c.trim_ascii_end.ensures.value in
    let last : c.leading_word.result.now ≡ leading back = c.leading_word.ensures ∙ ap leading start in
    let one = c.are_ends.result in
    first_fails (IsRemark (after_leading back)) one
    (subst (λ z. IsTrue one ↔ AreEnds z (leading back)) first
    (subst (λ z. IsTrue one ↔ AreEnds c.trim_ascii_end.result.now z) last c.are_ends.ensures))
    c.if-are_ends.false
