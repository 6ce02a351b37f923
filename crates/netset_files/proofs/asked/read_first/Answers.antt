-- The reader at the end is the one after the list.
use Rattle.std.proofs.Common.{None, subst, sym}
use Rattle.netset_lib.specs.Answering.{IsAnswererFor}
use Rattle.netset_lib.specs.SetReaders.{ReadsNext}
use Rattle.netset_files.proofs.asked.read_first.Goals as goal

pub returns-clause-read : goal.returns-clause-read
returns-clause-read c =
    let first = c.args.first.reader in
    subst (λ end. ReadsNext (IsAnswererFor first.query c.in_ok-first.answerer) None None first.lists end.lists)
    (sym c.in_ok-lists.ensures.reader) c.in_ok-first.ensures.read.1
