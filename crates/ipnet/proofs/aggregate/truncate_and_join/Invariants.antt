-- After i steps the front covers what the first i networks did, without host bits, and the rest of the list is as it
-- was.
use Rattle.std.proofs.Common.{◌≡◌, ◌≤◌, map, take, drop}
use Rattle.ipnet_base.proofs.AddingLaws.{IsListOfFirst}
use Rattle.ipnet.proofs.aggregate.truncate_and_join.Given as goal

abbrev pub invariant-loop-index : goal.invariant-loop-index
invariant-loop-index g l = record {
  at_most : l.kept ≤ l.index;
  rest : drop l.index l.list ≡ drop l.index l.initial.list;
  first : IsListOfFirst (map g.N.Net.network l.initial.list) l.index (map g.N.Net.network (take l.kept l.list));
}
