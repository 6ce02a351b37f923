use Rattle.std.proofs.Common.{◌≡◌, false}
use Rattle.std.specs.Io.KnownBytes.{Consumes, IsAtEnd}
use Rattle.ipnet_text.specs.Window.{held}
use Rattle.ipnet_lists.proofs.mark.begin_input.Given as goal

-- what the window holds was read, and it is all if no more may come
abbrev pub invariant-loop : goal.invariant-loop
invariant-loop g l = record {
  read : Consumes (g.R.Read.remaining l.fn.input) (g.R.Read.remaining l.input) (held l.window);
  end : l.more ≡ false → IsAtEnd (g.R.Read.remaining l.input);
}
