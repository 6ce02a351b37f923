use Rattle.std.proofs.Common.{◌≡◌, ◌<◌, []}
use Rattle.std.specs.Io.KnownBytes.{Consumes}
use Rattle.ipnet_text.specs.Window.{held}
use Rattle.ipnet_text.proofs.window.Window.fill.Given as goal

-- nothing was given so far, and there is room
abbrev pub invariant-loop : goal.invariant-loop
invariant-loop g l = record {
  same : held l.self ≡ held l.fn.self;
  none : Consumes (g.R.Read.remaining l.fn.input) (g.R.Read.remaining l.input) [];
  room : l.self.end < 65536;
}
