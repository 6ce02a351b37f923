use Rattle.ipnet.specs.NetworkOf.{ip_network}
use Rattle.ipnet_sets.specs.Members.{IsMember}
use Rattle.ipnet_bars.specs.Parts.{IsLevelOf}
use Rattle.ipnet_bars.proofs.PartLaws.{one_value_more}
use Rattle.ipnet_bars.proofs.part.levels_of.Goals as goal

pub loop-cell-preserved : goal.loop-cell-preserved
loop-cell-preserved c =
    one_value_more (IsLevelOf (IsMember c.args.set.now)) ip_network c.args.cells.now c.loop-cell.cell-index
    c.cell-item.result c.in_ok-level.level c.loop-cell.levels.items c.push.new.self.items c.loop-cell-test.true
    c.cell-item.is c.loop-cell.invariant c.in_ok-level.ensures.level c.in_ok-push.ensures.items
