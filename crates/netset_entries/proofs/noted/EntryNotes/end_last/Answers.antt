use Rattle.std.proofs.Common.{arith}
use Rattle.ipnet_text.proofs.LineCuts.{empty_text}
use Rattle.ipnet_text.proofs.ListsLaws.{OnOk_then}
use Rattle.netset_entries.proofs.NotedLists.{ends_closed, ends_begun}
use Rattle.netset_entries.proofs.noted.EntryNotes.end_last.Goals as goal

pub returns-then-len-eq0 : goal.returns-then-len-eq0
returns-then-len-eq0 c = λ grammar frame lists begun h.
    ends_closed grammar frame lists begun c.args.self.now h
    (empty_text c.args.self.now.line.items (omega (arith, c.len.ensures, c.if-len-eq0.true)))

pub returns : goal.returns
returns c =
    OnOk_then c.note_begun.result c.note_begun.ensures
    (λ reads grammar frame lists begun h.
    ends_begun grammar frame lists begun c.args.self.now h c.note_begun.new.self
    (omega (arith, c.len.ensures, c.if-len-eq0.false)) reads)
