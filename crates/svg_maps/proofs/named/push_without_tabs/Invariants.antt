-- After these characters the text has them, with a blank for each tab.
use Rattle.std.proofs.Common.{◌≡◌, ◌++◌, string_bytes}
use Rattle.svg_maps.specs.NamedOutlines.{spaced_text}
use Rattle.svg_maps.proofs.named.push_without_tabs.Given as goal

abbrev pub invariant-loop-c : goal.invariant-loop-c
invariant-loop-c l = string_bytes l.text ≡ string_bytes l.fn.text ++ spaced_text l.yielded
