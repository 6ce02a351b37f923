-- Each turn leaves what the window holds as it was (`WindowLaws`), until a read gives something or is the last.
use Rattle.std.proofs.Common.{◌<◌, ◌≤◌, ◌++◌, length, take, ap, ◌∙◌, arith, []}
use Rattle.std.proofs.KnownBytes.{Consumes-trans, Consumes-kept}
use Rattle.ipnet_text.proofs.WindowLaws.{grown_back, kept_back, none_given}
use Rattle.ipnet_text.proofs.window.Window.fill.Goals as goal

pub returns-in-Ok-clause-read : goal.returns-in-Ok-clause-read
returns-in-Ok-clause-read g c =
    let w = c.loop.self in
    let lent = c.deref_mut.result.now in
    let within : w.end ≤ length lent = omega (arith, ap length c.deref_mut.ensures.value, w.size, w.within) in
    let n = c.in-Ok.count in
    let bound = c.in-Ok.ensures.bound in
    let rest = g.R.Read.remaining in (
      take n c.read.new.buf,
      grown_back w.bytes lent c.read.new.buf w.start w.end _ c.deref_mut.ensures.value c.read.auto.buf w.ordered
          within n bound.0 ∙ ap (λ z. z ++ take n c.read.new.buf) c.loop.invariant.same,
      Consumes-trans (rest c.args.input.now) (rest c.loop.input) (rest c.read.new.self) [] (take n c.read.new.buf)
          c.loop.invariant.none c.in-Ok.ensures.bytes.0,
    )

pub returns-in-Ok-clause-end : goal.returns-in-Ok-clause-end
returns-in-Ok-clause-end g c = λ e.
    let room : 0 < length c.read.new.buf = omega arith in
    c.in-Ok.ensures.bytes.1 (none_given c.in-Ok.count e) room

pub returns-then-ne-clause-kept : goal.returns-then-ne-clause-kept
returns-then-ne-clause-kept g c =
    let w = c.loop.self in
    let lent = c.deref_mut.result.now in
    let within : w.end ≤ length lent = omega (arith, ap length c.deref_mut.ensures.value, w.size, w.within) in
    kept_back w.bytes lent c.read.new.buf w.start w.end _ c.deref_mut.ensures.value c.read.auto.buf w.ordered within
    ∙ c.loop.invariant.same

pub loop-preserved : goal.loop-preserved
loop-preserved g c =
    let w = c.loop.self in
    let lent = c.deref_mut.result.now in
    let within : w.end ≤ length lent = omega (arith, ap length c.deref_mut.ensures.value, w.size, w.within) in
    let rest = g.R.Read.remaining in
    record {
      same = kept_back w.bytes lent c.read.new.buf w.start w.end _ c.deref_mut.ensures.value c.read.auto.buf w.ordered
          within ∙ c.loop.invariant.same;
      none = Consumes-kept (rest c.args.input.now) (rest c.loop.input) (rest c.read.new.self) []
          c.loop.invariant.none c.in-Err.ensures.bytes;
      room = c.loop.invariant.room;
    }
