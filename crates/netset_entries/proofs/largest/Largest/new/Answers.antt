use Rattle.std.proofs.Common.{refl, arith}
use Rattle.netset_entries.proofs.largest.Largest.new.Goals as goal

pub returns : goal.returns
returns c = record {
  none = c.loop.invariant.none;
  size = omega (arith, c.loop.invariant.size);
  kept = refl;
  end = refl;
}
