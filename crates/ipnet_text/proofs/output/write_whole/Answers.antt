-- The loop keeps that the writer got the first `written` bytes: a piece more goes after them, and an interrupted write
-- took none.
use Rattle.std.proofs.Common.{◌≡◌, ◌≤◌, ◌-◌, length, take, drop, take_all, length-drop, arith}
use Rattle.std.proofs.KnownBytes.{Appends-trans, Appends-kept}
use Rattle.std.proofs.Math.Seq.{take-add}
use Rattle.std.specs.Io.KnownBytes.{Appends}
use Rattle.ipnet_text.proofs.output.write_whole.Goals as goal
use Rattle.ipnet_text.proofs.output.write_whole.Goals.{in-Ok, in-Err+else-ne}

pub loop-preserved : goal.loop-preserved
loop-preserved g c =
    let held = g.W.Write.contents in
    let bytes = c.args.bytes.now in
    let written = c.loop.written in
    let rest : take (length bytes - written) (drop written bytes) ≡ drop written bytes =
    take_all (length bytes - written) (drop written bytes) (omega (arith, length-drop written bytes)) in
    elim c.match-write.branch [
      | in-Ok w ↦
          let bound : w.in-Ok.count ≤ length (drop written bytes) = rw rest at w.in-Ok.ensures.bound in
          let taken : Appends (held c.loop.out) (held c.write.new.self) (take w.in-Ok.count (drop written bytes)) =
          rw rest at w.in-Ok.ensures.bytes in
          record {
            within = omega (arith, c.loop.invariant.within, w.written-is, bound, length-drop written bytes);
            front = rw (w.written-is, take-add written w.in-Ok.count bytes)
                (Appends-trans (held c.args.out.now) (held c.loop.out) (held c.write.new.self) (take written bytes)
                (take w.in-Ok.count (drop written bytes)) c.loop.invariant.front taken);
          }
      | in-Err+else-ne w ↦ record {
        within = omega (arith, c.loop.invariant.within, w.written-is);
        front = rw w.written-is (Appends-kept (held c.args.out.now) (held c.loop.out) (held c.write.new.self)
            (take written bytes) c.loop.invariant.front w.in-Err.ensures.bytes);
      }
    ]
