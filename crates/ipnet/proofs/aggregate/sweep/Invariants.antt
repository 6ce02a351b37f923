use Rattle.std.proofs.Common.{◌≡◌, ◌≤◌, map, take, drop}
use Rattle.ipnet_base.specs.Stack.{IsStackOfFirst}
use Rattle.ipnet.proofs.aggregate.sweep.Given as goal

abbrev pub invariant-loop-index : goal.invariant-loop-index
invariant-loop-index g l = record {
  at_most : l.stacked ≤ l.index;
  rest : drop l.index l.list ≡ drop l.index l.initial.list;
  stack : IsStackOfFirst (map g.N.Net.network l.initial.list) l.index (map g.N.Net.network (take l.stacked l.list));
}
