-- The groups before the last `rest` are written.
use Rattle.std.proofs.Common.{◌≡◌, ◌++◌, string_bytes}
use Rattle.ipnet_info.specs.Digits.{full_groups}
use Rattle.ipnet_info.proofs.numbers.written_out.Given as goal

abbrev pub invariant-loop-rest : goal.invariant-loop-rest
invariant-loop-rest l = string_bytes l.text ++ full_groups l.rest l.number ≡ full_groups 8 l.number
