use Rattle.std.proofs.Common.{◌++◌, ap, ◌∙◌}
use Rattle.netset_lib.proofs.counts.counts_text.Goals as goal

pub returns : goal.returns
returns c =
    let (lines, each, first) = c.in_ok-push_count_lines.ensures in
    let (total, all, second) = c.in_ok-push_total.ensures in
    record {
      lines = lines;
      total = total;
      each = each;
      all = all;
      spelled = second ∙ ap (λ z. z ++ total) (first ∙ ap (λ z. z ++ lines) c.new-text.ensures.bytes);
    }
