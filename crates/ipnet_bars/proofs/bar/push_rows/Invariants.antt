use Rattle.std.proofs.Common.{◌≡◌, ◌++◌, ℕ, List, map, take, string_bytes}
use Rattle.ipnet.specs.NetworkOf.{ip_network}
use Rattle.ipnet_sets.specs.Members.{IsMember}
use Rattle.ipnet_bars.specs.Bars.{IsRow, AreRows}
use Rattle.ipnet_bars.proofs.bar.push_rows.Given as goal

abbrev pub invariant-loop-row : goal.invariant-loop-row
invariant-loop-row l = (lines : List ℕ)
    × AreRows (IsRow (IsMember l.set) l.form.marks l.form.mark_len l.form.column)
    (map ip_network (take l.row-index l.rows)) lines
    × (string_bytes l.text ≡ string_bytes l.fn.text ++ lines)
