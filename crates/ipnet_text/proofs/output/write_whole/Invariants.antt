use Rattle.std.proofs.Common.{◌≤◌, length, take}
use Rattle.std.specs.Io.KnownBytes.{Appends}
use Rattle.ipnet_text.proofs.output.write_whole.Given as goal

-- what went out so far is a front of the bytes
abbrev pub invariant-loop : goal.invariant-loop
invariant-loop g l = record {
  within : l.written ≤ length l.bytes;
  front : Appends (g.W.Write.contents l.fn.out) (g.W.Write.contents l.out) (take l.written l.bytes);
}
