use Rattle.std.proofs.Common.{length, arith, refl, sym, ◌∙◌, ap}
use Rattle.std.specs.Char.{is_ascii_digit}
use Rattle.std.specs.List.{list_all}
use Rattle.ipnet_text.proofs.LineCuts.{no_bytes, some_bytes}
use Rattle.ipnet_lists.proofs.CauseTexts.{no_digits, above_unread}
use Rattle.ipnet_lists.proofs.cause_parts.writes_above.Goals.{then-is_empty-via-then-is_empty}
use Rattle.ipnet_lists.proofs.cause_parts.writes_above.Goals.{then-is_empty-via-else-is_empty+then-not-are_digits}
use Rattle.ipnet_lists.proofs.cause_parts.writes_above.Goals as goal

pub returns-then-is_empty : goal.returns-then-is_empty
returns-then-is_empty c =
    let text = c.args.text.now in
    elim c.then-is_empty.branch [
      | then-is_empty-via-then-is_empty w ↦ (
        λ e. absurd cc,
        λ h. absurd (omega (arith, h.digits.0, no_bytes (length text) w.if-is_empty.ensures)),
      )
      | then-is_empty-via-else-is_empty+then-not-are_digits w ↦ (
        λ e. absurd cc,
        λ h. absurd (no_digits c.args.most text
            (sym (w.if-not-are_digits.ensures ∙ ap (list_all is_ascii_digit) w.as_bytes.ensures.value)) h),
      )
    ]

pub returns-in-Err : goal.returns-in-Err
returns-in-Err c =
    let text = c.args.text.now in
    let above = above_unread c.args.most text (some_bytes (length text) c.if-is_empty.ensures)
    (sym (c.if-not-are_digits.ensures ∙ ap (list_all is_ascii_digit) c.as_bytes.ensures.value))
    (omega (arith, c.ranges.most.fits)) c.parse.result c.in-Err.field-0 c.in-Err.is c.parse.ensures.value.0 in
    (λ e. above, λ h. refl)
