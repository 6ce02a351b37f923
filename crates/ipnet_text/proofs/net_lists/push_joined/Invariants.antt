use Rattle.std.proofs.Common.{[], ◌∷◌, ◌++◌, map, length}
use Rattle.ipnet.specs.Blocks.{HaveSameCover}
use Rattle.ipnet_text.proofs.net_lists.push_joined.Given as goal

-- with the network that is still to be put there, the list covers what it is to cover at the end
abbrev pub invariant-loop-last : goal.invariant-loop-last
invariant-loop-last g l =
    HaveSameCover (map g.N.Net.network l.list.items ++ g.N.Net.network l.next ∷ [])
    (map g.N.Net.network l.fn.list.items ++ g.N.Net.network l.fn.network ∷ [])

abbrev pub decreases-loop-last : goal.decreases-loop-last
decreases-loop-last g l = length l.list.items
