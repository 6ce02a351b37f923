use Rattle.std.proofs.Common.{◌≡◌, ◌↔◌, ◌==◌, IsTrue, ap, drop, sym, subst, ◌∙◌}
use Rattle.std.specs.List.{before_first}
use Rattle.ipnet_lists.specs.Causes.{IsSomeEntry, from_dash, is_long_dash}
use Rattle.ipnet_lists.specs.Entries.{after_blanks, before_blanks}
use Rattle.ipnet_lists.proofs.FollowLaws.{dashed_is}
use Rattle.ipnet_lists.proofs.cause_follows.is_dashed.Goals as goal

pub returns-then-is_first_entry : goal.returns-then-is_first_entry
returns-then-is_first_entry c =
    let text = c.args.text.now in
    let bytes : c.as_bytes-text.result.now ≡ text = c.as_bytes-text.ensures.value in
    let back : c.from_dash-back.result.now ≡ from_dash text = c.from_dash-back.ensures ∙ ap from_dash bytes in
    let front : c.before_dash.result.now ≡ before_first (λ b. b == 226) text =
    c.before_dash.ensures ∙ ap (before_first (λ b. b == 226)) bytes in
    let rest : c.behind_blanks.result.now ≡ after_blanks (drop 3 (from_dash text)) =
    c.behind_blanks.ensures ∙ ap (λ z. after_blanks (drop 3 z)) back in
    let one = c.is_first_entry.result in
    let two = c.is_entry_word.result in
    dashed_is text one two (sym (c.is_long_dash.ensures.test ∙ ap is_long_dash back) ∙ c.if-not-is_long_dash.false)
    (subst (λ z. IsTrue one ↔ IsSomeEntry (before_blanks z)) front c.is_first_entry.ensures) c.if-is_first_entry.true
    (subst (λ z. IsTrue two ↔ IsSomeEntry z) rest c.is_entry_word.ensures)
