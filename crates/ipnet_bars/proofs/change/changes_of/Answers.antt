use Rattle.ipnet.specs.NetworkOf.{ip_network}
use Rattle.ipnet_sets.specs.Members.{IsMember}
use Rattle.ipnet_bars.specs.Changes.{IsChange}
use Rattle.ipnet_bars.proofs.PartLaws.{one_value_more}
use Rattle.ipnet_bars.proofs.change.changes_of.Goals as goal

pub loop-cell-preserved : goal.loop-cell-preserved
loop-cell-preserved c =
    one_value_more (IsChange (IsMember c.args.before.now) (IsMember c.args.after.now)) ip_network c.args.cells.now
    c.loop-cell.cell-index c.cell-item.result c.in_ok-change.change c.loop-cell.changes.items
    c.push.new.self.items c.loop-cell-test.true c.cell-item.is c.loop-cell.invariant c.in_ok-change.ensures
    c.in_ok-push.ensures.items
