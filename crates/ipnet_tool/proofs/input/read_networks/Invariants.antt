use Rattle.std.proofs.Common.{◌<◌, ◌≤◌, ◌*◌, length}
use Rattle.ipnet_text.specs.NetLists.{networks_of}
use Rattle.ipnet_text.specs.Window.{held}
use Rattle.ipnet_tool.proofs.ReadingLaws.{IsReadUpTo}
use Rattle.ipnet_tool.proofs.input.read_networks.Given as goal

-- The bytes read are the bytes taken and the bytes in the window; the window has room for more, and a turn takes at
-- most as many lines as the window has bytes.
abbrev pub invariant-loop : goal.invariant-loop
invariant-loop g l = record {
  taken : IsReadUpTo l.grammar (g.R.Read.remaining l.fn.input) (g.R.Read.remaining l.input) (held l.window)
      (networks_of l.families) l.number;
  room : length (held l.window) < 65536;
  bound : l.number ≤ 65536 * l.counter;
}
