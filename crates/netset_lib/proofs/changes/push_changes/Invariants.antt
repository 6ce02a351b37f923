-- The lists that are left are ascending. The written lines and the changes of the lists that are left are all changes.
use Rattle.std.proofs.Common.{map, length, ◌+◌, string_bytes}
use Rattle.ipnet.specs.NetworkOf.{ip_network}
use Rattle.ipnet_base.specs.Blocks.{IsAscending}
use Rattle.netset_lib.specs.ChangeSteps.{AreWrittenUpTo}
use Rattle.netset_lib.proofs.changes.push_changes.Given as goal

abbrev pub invariant-loop-step : goal.invariant-loop-step
invariant-loop-step l = record {
  before : IsAscending (map ip_network l.before_left);
  after : IsAscending (map ip_network l.after_left);
  written : AreWrittenUpTo (map ip_network l.before) (map ip_network l.after) (map ip_network l.before_left)
      (map ip_network l.after_left) (string_bytes l.fn.text) (string_bytes l.text);
}

abbrev pub decreases-loop-step : goal.decreases-loop-step
decreases-loop-step l = length l.before_left + length l.after_left
