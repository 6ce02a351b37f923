use Rattle.std.proofs.Common.{◌≡◌, ◌++◌, take, string_bytes}
use Rattle.ipnet_bars.specs.ComparisonBars.{changes_text}
use Rattle.ipnet_bars.proofs.comparison_bar.push_change_marks.Given as goal

abbrev pub invariant-loop-change : goal.invariant-loop-change
invariant-loop-change l =
    string_bytes l.text ≡ string_bytes l.fn.text ++ changes_text l.marks (take l.change-index l.changes)
