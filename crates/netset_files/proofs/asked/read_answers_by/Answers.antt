-- The reader is the one after the list.
use Rattle.std.proofs.Common.{None, Some, string_bytes, subst, sym}
use Rattle.netset_lib.specs.Answering.{AreAnsweredBy}
use Rattle.netset_lib.specs.SetReaders.{ReadsNext}
use Rattle.netset_files.proofs.ReadLaws.{none_weaker, some_weaker}
use Rattle.netset_files.proofs.asked.read_answers_by.Goals as goal

pub returns-clause-file : goal.returns-clause-file
returns-clause-file c =
    let second = c.in_ok-second in
    let Read = ReadsNext (AreAnsweredBy c.args.answerer second.answer) None None c.args.lists.reader in
    none_weaker c.args.entries _ _
    (λ h. subst (λ end. Read end.lists) (sym c.into_reader-reader.ensures.reader) h.1) second.ensures.file

pub returns-clause-entries : goal.returns-clause-entries
returns-clause-entries c =
    let second = c.in_ok-second in
    some_weaker c.args.entries _ _
    (λ text h. (
      h.0,
      subst (λ end. ReadsNext (AreAnsweredBy c.args.answerer second.answer) (Some (string_bytes text))
          h.0 c.args.lists.reader end.lists) (sym c.into_reader-reader.ensures.reader) h.1.1,
    ))
    second.ensures.entries
