use Rattle.std.proofs.Common.{arith, length, ap}
use Rattle.ipnet.specs.Lines.{lines_of}
use Rattle.ipnet_text.proofs.ListsLaws.{OnOk_then}
use Rattle.netset_words.proofs.LogBytes.{no_line_left, one_line_left, is_nothing, is_something}
use Rattle.netset_words.proofs.LogEntryLaws.{no_items}
use Rattle.netset_words.proofs.line_filter.LineFilter.end_kept_log.Goals as goal

pub returns-then-len-eq0 : goal.returns-then-len-eq0
returns-then-len-eq0 c = λ how set written known bytes h.
    let old = c.args.self.now in
    no_line_left how set written known bytes old h
    (is_nothing how set written known (lines_of h.closed) h.cur old h.up_to c.requires
    (no_items old.front.items (omega (arith, c.len.ensures, c.if-len-eq0.true))))

pub returns : goal.returns
returns c =
    OnOk_then c.end_line.result c.end_line.ensures
    (λ ends how set written known bytes h.
    one_line_left how set written known bytes c.args.self.now h c.end_line.new.self
    (is_something how set written known (lines_of h.closed) h.cur c.args.self.now h.up_to
    (λ kept none. let size = ap length none in absurd (omega (arith, c.len.ensures, c.if-len-eq0.false, size))))
    (ends how set written known (lines_of h.closed) h.cur h.up_to))
