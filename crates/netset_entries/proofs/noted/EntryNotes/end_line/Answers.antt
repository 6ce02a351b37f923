use Rattle.std.proofs.Common.{◌∙◌, ◌++◌, ap, arith, sym}
use Rattle.ipnet_text.proofs.LineCuts.{empty_text}
use Rattle.ipnet_text.proofs.ListsLaws.{OnOk_then}
use Rattle.netset_entries.proofs.NotedLists.{line_ends}
use Rattle.netset_entries.proofs.noted.EntryNotes.end_line.Goals as goal

pub returns-then-len-eq0 : goal.returns-then-len-eq0
returns-then-len-eq0 c =
    let old = c.args.self.now in
    let piece = c.args.piece.now in
    let none = empty_text old.line.items (omega (arith, c.len.ensures, c.if-len-eq0.true)) in
    OnOk_then c.note_line.result c.note_line.ensures
    (λ reads grammar frame lists begun no_end h.
    line_ends grammar frame lists begun old h piece piece c.note_line.new.self no_end
    (sym (ap (λ z. z ++ piece) none)) reads.blocks reads.started (ap (λ v. v.items) reads.same_line ∙ none))

pub returns : goal.returns
returns c =
    let old = c.args.self.now in
    OnOk_then c.note_begun.result c.note_begun.ensures
    (λ reads grammar frame lists begun no_end h.
    line_ends grammar frame lists begun old h c.args.piece.now _ c.note_begun.new.self no_end
    c.in_ok-extend_from_slice.ensures.items reads.blocks reads.started reads.no_line)
