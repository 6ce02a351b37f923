-- A text that is lines ends with a line end, and has a line end for each line.
use Rattle.ipnet_c.proofs.LineTexts.{lines_counted, not_lines}
use Rattle.ipnet_c.proofs.rows.has_lines.Goals as goal

pub returns-then-is_ended : goal.returns-then-is_ended
returns-then-is_ended c =
    lines_counted c.args.text.now c.args.count c.count_line_ends.result (c.is_ended.ensures.0 c.if-is_ended.true)
    c.count_line_ends.ensures

pub returns-else-is_ended : goal.returns-else-is_ended
returns-else-is_ended c = (
  λ t. absurd cc,
  λ h. absurd (not_lines c.args.text.now c.args.count
      (λ ended. let is = c.is_ended.ensures.1 ended in let not = c.if-is_ended.false in absurd cc) h),
)
