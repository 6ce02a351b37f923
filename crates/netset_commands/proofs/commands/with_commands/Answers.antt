use Rattle.netset_commands.proofs.CommandLaws.{next_row}
use Rattle.netset_commands.proofs.commands.with_commands.Goals as goal

pub loop-row-preserved : goal.loop-row-preserved
loop-row-preserved c =
    next_row c.loop-row.command _ c.in_ok-command.command c.args.rows.now c.loop-row.row-index _ _
    c.loop-row-test.true c.in_ok-command.ensures c.in_ok-command_of.ensures c.loop-row.invariant
