-- One cell more.
use Rattle.std.proofs.Common.{◌+◌, refl, sym, subst}
use Rattle.ipnet_rules.proofs.KeptLaws.{AreAddedTo, added_start, added_next, added_end}
use Rattle.ipnet_rules.proofs.kept.push_cells.Goals as goal

pub loop-cell-init : goal.loop-cell-init
loop-cell-init c = added_start c.args.family c.args.owners.now c.args.list.now.items

pub loop-cell-preserved : goal.loop-cell-preserved
loop-cell-preserved c =
    let family = c.args.family in
    let owners = c.args.owners.now in
    subst (AreAddedTo family owners (c.loop-cell.cell + 1) c.args.list.now.items) (sym c.in_ok-push.ensures.items)
    (added_next family owners c.loop-cell.cell c.args.list.now.items c.loop-cell.list.items _ c.loop-cell.invariant
    (record { of_family = refl; within = c.loop-cell-test.true; owner = refl }) refl)

pub returns : goal.returns
returns c =
    added_end c.args.family c.args.owners.now c.loop-cell.cell c.args.list.now.items c.loop-cell.list.items
    c.loop-cell.invariant c.loop-cell-test.false
