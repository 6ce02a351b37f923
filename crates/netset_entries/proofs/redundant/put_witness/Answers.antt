-- One line more; a front of that line is a front of all.
use Rattle.std.proofs.Common.{◌+◌, ◌++◌, map, take, drop, refl, sym, ap, ◌∙◌, subst, append_assoc}
use Rattle.ipnet_text.specs.Pieces.{IsInPieces}
use Rattle.netset_entries.specs.EntryLineOf.{numbered}
use Rattle.netset_entries.specs.Redundancy.{witness_lines}
use Rattle.netset_entries.proofs.PieceLaws.{piece_more, piece_put, front_after, witness_cut}
use Rattle.netset_entries.proofs.PieceLaws.{witness_rest}
use Rattle.netset_entries.proofs.redundant.put_witness.Goals as goal

pub loop-span-preserved : goal.loop-span-preserved
loop-span-preserved g c =
    let held = g.W.Write.contents in
    let entries = map numbered c.args.lines.now in
    let spans = c.args.spans.now in
    let i = c.loop-span.span-index in
    let start = c.args.piece.now.items in
    let done = start ++ witness_lines entries (map (λ s. s.place) (take i spans)) in
    let cut = witness_cut (λ s. s.place) entries spans i _ c.loop-span-test.true in
    subst (IsInPieces (held c.args.out.now) (held c.put_covering.new.out) c.put_covering.new.piece.items)
    (append_assoc start (witness_lines entries (map (λ s. s.place) (take i spans))) _
    ∙ ap (λ z. start ++ z) (sym cut))
    (piece_more (held c.args.out.now) (held c.loop-span.out) (held c.put_covering.new.out) c.loop-span.piece.items _
    c.put_covering.new.piece.items done _ c.loop-span.invariant refl c.in_ok-put_covering.ensures.whole)

pub returns-in_err-put_covering-clause-front : goal.returns-in_err-put_covering-clause-front
returns-in_err-put_covering-clause-front g c =
    let held = g.W.Write.contents in
    let entries = map numbered c.args.lines.now in
    let spans = c.args.spans.now in
    let i = c.loop-span.span-index in
    let start = c.args.piece.now.items in
    let before = witness_lines entries (map (λ s. s.place) (take i spans)) in
    let rest = witness_lines entries (map (λ s. s.place) (drop (i + 1) spans)) in
    let cut = witness_cut (λ s. s.place) entries spans i _ c.loop-span-test.true in
    front_after (held c.args.out.now) (held c.loop-span.out) (held c.put_covering.new.out) _ _ rest
    (start ++ witness_lines entries (map (λ s. s.place) spans))
    (piece_put (held c.args.out.now) (held c.loop-span.out) c.loop-span.piece.items _ (start ++ before) _
    c.loop-span.invariant refl)
    (ap (λ z. start ++ z) (witness_rest (λ s. s.place) entries spans (i + 1) ∙ ap (λ z. z ++ rest) cut)
    ∙ sym (append_assoc start (before ++ _) rest)
    ∙ ap (λ z. z ++ rest) (sym (append_assoc start before _)))
    c.in_err-put_covering.ensures.front
