-- The line of the entry, and then the lines of the others.
use Rattle.std.proofs.Common.{◌++◌, [], map, refl, sym, ap, ◌∙◌, subst, append_assoc, append-nil}
use Rattle.std.proofs.lemmas.Result.{on_ok_weaker}
use Rattle.ipnet_text.specs.Pieces.{IsInPieces}
use Rattle.netset_entries.specs.EntryLineOf.{numbered}
use Rattle.netset_entries.specs.EntryTexts.{entry_line_at}
use Rattle.netset_entries.specs.Redundancy.{witness_lines}
use Rattle.netset_entries.proofs.PieceLaws.{piece_more, piece_put, front_after}
use Rattle.netset_entries.proofs.redundant.put_dropped.Goals as goal

pub returns-clause-whole : goal.returns-clause-whole
returns-clause-whole g c =
    let held = g.W.Write.contents in
    let entries = map numbered c.args.lines.now in
    let start = c.args.piece.now.items in
    let line = entry_line_at entries c.args.index in
    let text = witness_lines entries (map (λ s. s.place) c.args.spans.now) in
    let first = c.push_line_at.new.text.items in
    on_ok_weaker c.put_witness.result
    (λ more. subst (IsInPieces (held c.args.out.now) (held c.put_witness.new.out) c.put_witness.new.piece.items)
    (ap (λ z. z ++ text) c.in_ok-push_line_at.ensures ∙ append_assoc start line text)
    (piece_more (held c.args.out.now) (held c.write_if_long.new.out) (held c.put_witness.new.out)
    c.write_if_long.new.piece.items _ c.put_witness.new.piece.items first text c.in_ok-write_if_long.ensures.ok refl
    more))
    c.put_witness.ensures.whole

pub returns-clause-front : goal.returns-clause-front
returns-clause-front g c =
    let held = g.W.Write.contents in
    let entries = map numbered c.args.lines.now in
    let start = c.args.piece.now.items in
    let line = entry_line_at entries c.args.index in
    let text = witness_lines entries (map (λ s. s.place) c.args.spans.now) in
    let first = c.push_line_at.new.text.items in
    front_after (held c.args.out.now) (held c.write_if_long.new.out) (held c.put_witness.new.out) _ (first ++ text) []
    (start ++ (line ++ text))
    (piece_put (held c.args.out.now) (held c.write_if_long.new.out) c.write_if_long.new.piece.items _ first text
    c.in_ok-write_if_long.ensures.ok refl)
    (sym (append_assoc start line text) ∙ ap (λ z. z ++ text) (sym c.in_ok-push_line_at.ensures)
    ∙ sym (append-nil (first ++ text)))
    c.put_witness.ensures.front
