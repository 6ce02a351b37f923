-- The digits at the places from `place` on are written.
use Rattle.std.proofs.Common.{◌≡◌, ◌++◌, string_bytes}
use Rattle.ipnet_info.specs.Digits.{hex_digits}
use Rattle.ipnet_info.proofs.numbers.push_digits.Given as goal

abbrev pub invariant-loop-place : goal.invariant-loop-place
invariant-loop-place l =
    string_bytes l.text ++ hex_digits l.place l.number ≡ string_bytes l.fn.text ++ hex_digits l.count l.number
