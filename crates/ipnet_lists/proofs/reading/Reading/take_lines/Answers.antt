use Rattle.std.proofs.Common.{◌≡◌, true, false, [], ◌++◌, take, refl, sym, ap, ◌∙◌, subst}
use Rattle.ipnet_text.specs.Window.{held}
use Rattle.ipnet_text.proofs.ClosedLines.{IsClosed, closed_behind}
use Rattle.ipnet.specs.Lines.{lines_of}
use Rattle.ipnet_lists.specs.Reading.{ReadsLines}
use Rattle.ipnet_lists.proofs.ListReading.{reads_none}
use Rattle.ipnet_lists.proofs.WindowReading.{both_taken, some_taken, nothing_left}
use Rattle.ipnet_lists.proofs.reading.Reading.take_lines.Goals as goal

pub returns-then-more : goal.returns-then-more
returns-then-more g c = record {
  front = [];
  is = refl;
  closed = λ e rest. refl;
  all = λ e. let clash : true ≡ false = sym c.if-more.true ∙ e in absurd cc;
  lines = reads_none c.args.self.now.lines (g.C.Collector.is_made c.args.collector.now c.args.made.now);
}

pub returns : goal.returns
returns g c =
    let old = c.args.self.now in
    let bytes = held old.window in
    let count = c.lines_len-count.result in
    let value = c.held-held.ensures.value in
    let front : c.extend_from_slice.new.self.items ≡ old.carry.items ++ take count bytes =
    c.in_ok-extend_from_slice.ensures.items ∙ ap (λ z. old.carry.items ++ take count z) value in
    record {
      front = c.extend_from_slice.new.self.items;
      is = both_taken old.carry.items bytes c.extend_from_slice.new.self.items c.clear.new.self.items
          (held c.take-2.new.self) count front c.clear.ensures.items c.take-2.ensures;
      closed = λ e. subst IsClosed (sym front)
          (closed_behind old.carry.items (take count bytes)
          (some_taken bytes c.held-held.result.now count c.args.more value c.lines_len-count.ensures.at_most
          c.else-count-eq0.either e)
          (subst (λ z. IsClosed (take count z)) value (c.lines_len-count.ensures.closed e)));
      all = λ e. nothing_left bytes c.held-held.result.now c.clear.new.self.items (held c.take-2.new.self) count value
          (c.lines_len-count.ensures.all e) c.clear.ensures.items c.take-2.ensures;
      lines =
          subst (λ z. ReadsLines old.lines c.read-2.new.self (lines_of z)
          (g.C.Collector.is_made c.args.collector.now c.args.made.now)
          (g.C.Collector.is_made c.args.collector.now c.read-2.new.made)) c.as_slice.ensures.value
          c.in_ok-read-2.ensures;
    }
