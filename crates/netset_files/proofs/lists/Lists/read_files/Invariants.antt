-- the lists so far were read
use Rattle.std.proofs.Common.{◌≡◌, length}
use Rattle.netset_files.specs.ListReads.{AreRead}
use Rattle.netset_files.proofs.lists.Lists.read_files.Given as goal

abbrev pub invariant-loop-name : goal.invariant-loop-name
invariant-loop-name g l = record {
  read : AreRead g.L.ListReader.reads l.fn.self.reader l.all.items l.lists.reader;
  count : length l.all.items ≡ l.name-index;
  reports : l.lists.reports ≡ l.fn.self.reports;
}
