-- The list of the query was read, and then the list of the entries.
use Rattle.std.proofs.Common.{None}
use Rattle.netset_files.proofs.ReadLaws.{none_weaker, some_weaker, ok_weaker}
use Rattle.netset_files.proofs.asked.read_answers.Goals as goal

pub returns-clause-file : goal.returns-clause-file
returns-clause-file c =
    let first = c.in_ok-first in
    none_weaker c.args.entries _ _
    (ok_weaker c.read_answers_by.result _ _
    (λ r second. record {
      answerer = first.answerer;
      mid = first.first.reader.lists;
      left_after = None;
      first = first.ensures.read.1;
      second = second;
    }))
    c.read_answers_by.ensures.file

pub returns-clause-entries : goal.returns-clause-entries
returns-clause-entries c =
    let first = c.in_ok-first in
    some_weaker c.args.entries _ _
    (λ text. ok_weaker c.read_answers_by.result _ _
    (λ r second. record {
      answerer = first.answerer;
      mid = first.first.reader.lists;
      left_after = second.0;
      first = first.ensures.read.1;
      second = second.1;
    }))
    c.read_answers_by.ensures.entries
