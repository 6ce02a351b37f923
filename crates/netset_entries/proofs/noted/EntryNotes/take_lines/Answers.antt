use Rattle.std.proofs.Common.{refl}
use Rattle.netset_entries.proofs.NotedLists.{none_read, line_read, all_read, none_found}
use Rattle.netset_entries.proofs.noted.EntryNotes.take_lines.Goals as goal

pub lines-init : goal.lines-init
lines-init c = none_read c.args.self.now c.args.bytes.now

pub lines-preserved : goal.lines-preserved
lines-preserved c =
    line_read c.args.self.now c.lines.self c.end_line.new.self c.args.bytes.now c.lines.rest.now c.in-Some.end
    c.lines.invariant c.in-Some.ensures.0 c.in-Some.ensures.1 c.in_ok-end_line.ensures

pub returns : goal.returns
returns c =
    all_read c.args.self.now c.lines.self _ c.args.bytes.now c.lines.rest.now c.lines.invariant
    (none_found c.lines.rest.now c.memchr.result c.memchr.ensures c.in_default.not-Some)
    c.in_ok-extend_from_slice.ensures.items refl refl
