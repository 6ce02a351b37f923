use Rattle.std.proofs.Common.{◌≡◌, ◌++◌, take, string_bytes}
use Rattle.ipnet_bars.specs.MarkTexts.{marks_text}
use Rattle.ipnet_bars.proofs.marks.push_marks.Given as goal

abbrev pub invariant-loop-level : goal.invariant-loop-level
invariant-loop-level l =
    string_bytes l.text ≡ string_bytes l.fn.text ++ marks_text l.marks (take l.level-index l.levels)
