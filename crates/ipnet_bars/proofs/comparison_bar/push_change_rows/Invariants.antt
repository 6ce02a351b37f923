use Rattle.std.proofs.Common.{◌≡◌, ◌++◌, ℕ, List, map, take, string_bytes}
use Rattle.ipnet.specs.NetworkOf.{ip_network}
use Rattle.ipnet_sets.specs.Members.{IsMember}
use Rattle.ipnet_bars.specs.Bars.{AreRows}
use Rattle.ipnet_bars.specs.ComparisonBars.{IsChangeRow}
use Rattle.ipnet_bars.proofs.comparison_bar.push_change_rows.Given as goal

abbrev pub invariant-loop-row : goal.invariant-loop-row
invariant-loop-row l = (lines : List ℕ)
    × AreRows (IsChangeRow (IsMember l.sets.before.now) (IsMember l.sets.after.now) l.form.marks l.form.mark_len
    l.form.column) (map ip_network (take l.row-index l.rows)) lines
    × (string_bytes l.text ≡ string_bytes l.fn.text ++ lines)
