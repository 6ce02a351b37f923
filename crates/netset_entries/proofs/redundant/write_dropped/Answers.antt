-- One dropped entry more; the piece is written at the end.
use Rattle.std.proofs.Common.{map}
use Rattle.netset_entries.specs.EntryLineOf.{numbered}
use Rattle.netset_entries.proofs.PieceLaws.{item_more, item_front, piece_front, all_out, front_out}
use Rattle.netset_entries.proofs.redundant.write_dropped.Goals as goal

pub loop-item-preserved : goal.loop-item-preserved
loop-item-preserved g c =
    let held = g.W.Write.contents in
    item_more (map numbered c.args.lines.now) c.args.kept.now.ipv4.items c.args.kept.now.ipv6.items
    c.args.covered.now (held c.args.out.now) (held c.loop-item.out) (held c.put_dropped.new.out)
    c.loop-item.piece.items c.put_dropped.new.piece.items c.loop-item.item-index _ _ c.loop-item-test.true
    c.covering-spans.ensures c.loop-item.invariant c.in_ok-put_dropped.ensures.whole

pub returns-in_err-put_dropped-clause-front : goal.returns-in_err-put_dropped-clause-front
returns-in_err-put_dropped-clause-front g c =
    let held = g.W.Write.contents in
    item_front (map numbered c.args.lines.now) c.args.kept.now.ipv4.items c.args.kept.now.ipv6.items
    c.args.covered.now (held c.args.out.now) (held c.loop-item.out) (held c.put_dropped.new.out)
    c.loop-item.piece.items c.loop-item.item-index _ _ c.loop-item-test.true
    c.covering-spans.ensures c.loop-item.invariant c.in_err-put_dropped.ensures.front

pub returns-in_err-write_whole-clause-front : goal.returns-in_err-write_whole-clause-front
returns-in_err-write_whole-clause-front g c =
    let held = g.W.Write.contents in
    piece_front (map numbered c.args.lines.now) c.args.kept.now.ipv4.items c.args.kept.now.ipv6.items
    c.args.covered.now (held c.args.out.now) (held c.loop-item.out) (held c.write_whole.new.out)
    c.loop-item.piece.items c.as_slice.result.now c.loop-item.item-index c.loop-item.invariant
    c.as_slice.ensures.value c.in_err-write_whole.ensures.front

pub returns-in_err-flush-clause-front : goal.returns-in_err-flush-clause-front
returns-in_err-flush-clause-front g c =
    let held = g.W.Write.contents in
    front_out (map numbered c.args.lines.now) c.args.kept.now.ipv4.items c.args.kept.now.ipv6.items
    c.args.covered.now (held c.args.out.now) (held c.loop-item.out) (held c.write_whole.new.out)
    (held c.flush.new.self) c.loop-item.piece.items c.as_slice.result.now c.loop-item.item-index
    c.loop-item.invariant c.as_slice.ensures.value c.in_ok-write_whole.ensures.whole c.flush.ensures.bytes
    c.loop-item-test.false

pub returns-clause-whole : goal.returns-clause-whole
returns-clause-whole g c =
    let held = g.W.Write.contents in
    all_out (map numbered c.args.lines.now) c.args.kept.now.ipv4.items c.args.kept.now.ipv6.items
    c.args.covered.now (held c.args.out.now) (held c.loop-item.out) (held c.write_whole.new.out)
    (held c.flush.new.self) c.loop-item.piece.items c.as_slice.result.now c.loop-item.item-index
    c.loop-item.invariant c.as_slice.ensures.value c.in_ok-write_whole.ensures.whole c.flush.ensures.bytes
    c.loop-item-test.false

pub returns-clause-front : goal.returns-clause-front
returns-clause-front g c =
    let held = g.W.Write.contents in
    front_out (map numbered c.args.lines.now) c.args.kept.now.ipv4.items c.args.kept.now.ipv6.items
    c.args.covered.now (held c.args.out.now) (held c.loop-item.out) (held c.write_whole.new.out)
    (held c.flush.new.self) c.loop-item.piece.items c.as_slice.result.now c.loop-item.item-index
    c.loop-item.invariant c.as_slice.ensures.value c.in_ok-write_whole.ensures.whole c.flush.ensures.bytes
    c.loop-item-test.false
