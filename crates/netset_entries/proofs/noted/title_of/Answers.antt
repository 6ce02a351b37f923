use Rattle.std.proofs.Common.{◌≡◌, ◌++◌, ◌∙◌, ap, codes, length, subst, string_bytes}
use Rattle.std.specs.Str.Lossy.{utf8_lossy}
use Rattle.ipnet_bars.specs.ShortTexts.{IsShortened}
use Rattle.ipnet_text.proofs.LineCuts.{no_bytes, some_bytes}
use Rattle.netset_entries.proofs.TitleLaws.{plain_title, full_title}
use Rattle.netset_entries.proofs.noted.title_of.Goals as goal

pub returns-then-is_empty : goal.returns-then-is_empty
returns-then-is_empty c =
    plain_title c.args.text.now c.args.comment.now _ (no_bytes (length c.args.comment.now) c.if-is_empty.ensures)
    c.in_ok-title.ensures.ok

pub returns : goal.returns
returns c =
    let short = string_bytes c.in_ok-short.short in
    full_title c.args.text.now c.args.comment.now _ short
    (some_bytes (length c.args.comment.now) c.if-is_empty.ensures)
    (subst (λ z. IsShortened z short) text c.in_ok-short.ensures)
    (c.in_ok-push_str-2.ensures.bytes
    ∙ ap (λ z. z ++ c.as_str-2.result.now)
    (c.in_ok-push_str.ensures.bytes ∙ ap (λ z. z ++ codes ": ") c.in_ok-title.ensures.ok)
    ∙ ap (λ z. (c.args.text.now ++ codes ": ") ++ z) c.as_str-2.ensures.value)
  where
    text : c.as_str.result.now ≡ utf8_lossy c.args.comment.now
    text = c.as_str.ensures.value ∙ c.in_ok-comment.ensures.lossy
