use Rattle.std.proofs.Common.{map, take}
use Rattle.std.specs.List.{AllZip}
use Rattle.ipnet.specs.NetworkOf.{ip_network}
use Rattle.ipnet_sets.specs.Members.{IsMember}
use Rattle.ipnet_bars.specs.Changes.{IsChange}
use Rattle.ipnet_bars.proofs.change.changes_of.Given as goal

abbrev pub invariant-loop-cell : goal.invariant-loop-cell
invariant-loop-cell l =
    AllZip (IsChange (IsMember l.before) (IsMember l.after)) (map ip_network (take l.cell-index l.cells))
    l.changes.items
