-- After these characters the text has their pieces.
use Rattle.std.proofs.Common.{◌≡◌, ◌++◌, string_bytes}
use Rattle.svg_text.specs.Escapes.{escaped_all}
use Rattle.svg_text.proofs.escape.push_escaped.Given as goal

abbrev pub invariant-loop-c : goal.invariant-loop-c
invariant-loop-c l = string_bytes l.text ≡ string_bytes l.fn.text ++ escaped_all l.yielded
