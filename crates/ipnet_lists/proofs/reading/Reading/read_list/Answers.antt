use Rattle.std.proofs.Common.{refl, subst}
use Rattle.ipnet_text.proofs.ListsLaws.{OnOk_then}
use Rattle.ipnet_lists.specs.Reading.{TakesLines, at_first_line}
use Rattle.ipnet_lists.proofs.WindowReading.{IsListUpTo, up_to_begin, up_to_lines, up_to_bytes, up_to_whole}
use Rattle.ipnet_lists.proofs.reading.Reading.read_list.Goals as goal

pub loop-init : goal.loop-init
loop-init g c =
    up_to_begin c.in_ok-more.more (g.R.Read.remaining c.args.input.now) (g.R.Read.remaining c.begin.new.input)
    c.args.self.now c.begin.new.self (g.C.Collector.is_made c.args.collector.now c.args.made.now) c.in_ok-more.ensures

pub returns-then-not-more : goal.returns-then-not-more
returns-then-not-more g c =
    let left = g.R.Read.remaining in
    let is_made = g.C.Collector.is_made c.args.collector.now in
    let start = at_first_line c.args.self.now.lines in
    OnOk_then c.end_list.result c.end_list.ensures.next
    (λ place. up_to_whole (left c.args.input.now) (left c.loop.input) start c.args.self.now c.loop.self
    c.take_lines.new.self c.end_list.new.self (is_made c.args.made.now) (is_made c.loop.made)
    (is_made c.take_lines.new.made) refl refl refl refl
    (subst (λ m. IsListUpTo m (left c.args.input.now) (left c.loop.input) start c.loop.self (is_made c.args.made.now)
    (is_made c.loop.made)) c.if-not-more.true c.loop.invariant)
    (subst (λ m. TakesLines m c.loop.self c.take_lines.new.self (is_made c.loop.made) (is_made c.take_lines.new.made))
    c.if-not-more.true c.in_ok-take_lines.ensures)
    place c.end_list.ensures.same_grammar c.end_list.ensures.same_refused refl c.end_list.ensures.same_entry)

pub loop-preserved : goal.loop-preserved
loop-preserved g c =
    let left = g.R.Read.remaining in
    let is_made = g.C.Collector.is_made c.args.collector.now in
    let start = at_first_line c.args.self.now.lines in
    let on = c.in_ok-more-2.ensures in
    up_to_bytes c.in_ok-more-2.more (left c.args.input.now) (left c.loop.input) (left c.go_on.new.input) start
    c.take_lines.new.self c.go_on.new.self on.given (is_made c.args.made.now) (is_made c.take_lines.new.made)
    (up_to_lines (left c.args.input.now) (left c.loop.input) start c.loop.self c.take_lines.new.self
    (is_made c.args.made.now) (is_made c.loop.made) (is_made c.take_lines.new.made)
    (subst (λ m. IsListUpTo m (left c.args.input.now) (left c.loop.input) start c.loop.self (is_made c.args.made.now)
    (is_made c.loop.made)) c.if-not-more.false c.loop.invariant)
    (subst (λ m. TakesLines m c.loop.self c.take_lines.new.self (is_made c.loop.made) (is_made c.take_lines.new.made))
    c.if-not-more.false c.in_ok-take_lines.ensures))
    on.is on.same_lines on.read on.end
