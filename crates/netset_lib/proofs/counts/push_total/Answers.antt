use Rattle.std.proofs.lemmas.Result.{on_ok_weaker}
use Rattle.netset_lib.proofs.CountTexts.{total_right}
use Rattle.netset_lib.proofs.counts.push_total.Goals as goal

pub returns-in_ok-all-in_default : goal.returns-in_ok-all-in_default
returns-in_ok-all-in_default c =
    on_ok_weaker c.push_count_line.result
    (λ (line, is, pushed). (
      line,
      total_right c.args.sets.now c.in_ok-all-in_default.all line c.in_default.len_at_least
          c.in_ok-all-in_default.ensures.members is,
      pushed,
    ))
    c.push_count_line.ensures
