use Rattle.std.proofs.Common.{ℕ, List}
use Rattle.std.specs.Io.KnownBytes.{Consumes}
use Rattle.ipnet_tool.proofs.input.after_bad_bytes.Given as goal

-- the bytes that were read
abbrev pub invariant-loop : goal.invariant-loop
invariant-loop g l = (more : List ℕ) × Consumes (g.R.Read.remaining l.fn.input) (g.R.Read.remaining l.input) more
