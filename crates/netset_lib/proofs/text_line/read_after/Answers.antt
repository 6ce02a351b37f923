use Rattle.std.proofs.Common.{refl, sym, ◌∙◌, subst}
use Rattle.std.specs.Str.{IsUtf8}
use Rattle.ipnet_lists.specs.EntryOf.{entry_range}
use Rattle.netset_lib.specs.TextSteps.{line_in}
use Rattle.netset_lib.specs.TextTables.{IsTextLine}
use Rattle.netset_lib.proofs.TextLineLaws.{none_read, some_read, no_line_word, no_line_text, line_with_text}
use Rattle.netset_lib.proofs.TextLineLaws.{allowed_of, may_follow}
use Rattle.netset_lib.proofs.text_line.read_after.Goals as goal

pub returns-in_default : goal.returns-in_default
returns-in_default c =
    let contents = c.args.contents.now in
    none_read line_in (IsTextLine c.args.grammar) contents
    (no_line_word c.args.grammar contents c.cut_word.result.0.now c.cut_word.result.1.now c.cut_word.ensures.word
    c.cut_word.ensures.rest c.requires
    (c.in_default.ensures.reads.none.0 refl))

pub returns-in_default-from_utf8 : goal.returns-in_default-from_utf8
returns-in_default-from_utf8 c =
    let contents = c.args.contents.now in
    none_read line_in (IsTextLine c.args.grammar) contents
    (no_line_text c.args.grammar contents c.cut_word.result.0.now c.cut_word.result.1.now c.cut_word.ensures.word
    c.cut_word.ensures.rest c.requires (λ may. c.in_default-from_utf8.ensures.cases.0 may.text_utf8))

pub returns-then-not-is_allowed : goal.returns-then-not-is_allowed
returns-then-not-is_allowed c =
    let contents = c.args.contents.now in
    let (same, utf8) = c.in-Ok.ensures.cases in
    none_read line_in (IsTextLine c.args.grammar) contents
    (no_line_text c.args.grammar contents c.cut_word.result.0.now c.in-Ok.text.now c.cut_word.ensures.word
    (same ∙ c.cut_word.ensures.rest) c.requires
    (λ may.
    let is = c.is_allowed.ensures.1 (allowed_of contents c.in-Ok.text.now may) in
    let not = c.if-not-is_allowed.true in
    absurd cc))

pub returns : goal.returns
returns c =
    let contents = c.args.contents.now in
    let (same, utf8) = c.in-Ok.ensures.cases in
    some_read line_in (IsTextLine c.args.grammar) contents
    (record { entry = c.in-Some.found.entry; text = c.in-Ok.text })
    (line_with_text c.args.grammar contents c.cut_word.result.0.now c.in-Ok.text.now c.cut_word.ensures.word
    (same ∙ c.cut_word.ensures.rest) c.requires (entry_range c.in-Some.found.entry)
    c.in-Some.ensures.reads.some
    (may_follow contents c.in-Ok.text.now (subst IsUtf8 (sym same) utf8)
    (c.is_allowed.ensures.0 c.if-not-is_allowed.false)))
