-- Each turn puts the first range that is left.
use Rattle.std.proofs.Common.{◌++◌, sym, subst, true}
use Rattle.std.proofs.lemmas.Result.{on_err_weaker}
use Rattle.ipnet_base.specs.RangeOf.{ip_range}
use Rattle.ipnet_sets.specs.Members.{IsMember}
use Rattle.ipnet_sets.specs.RangesLeft.{ranges_left}
use Rattle.ipnet_text.proofs.ListsLaws.{OnOk_then}
use Rattle.ipnet_text.specs.Pieces.{IsInPieces}
use Rattle.ipnet_lists.specs.SetLines.{range_text}
use Rattle.netset_forms.specs.FormSteps.{layout_of, lead_of, IsCut}
use Rattle.netset_forms.proofs.PieceLaws.{put_then, cut_first, cut_then, if_err}
use Rattle.netset_forms.proofs.RangeItems.{IsPuttingRanges, ranges_start, first_some, ranges_more, ranges_cut}
use Rattle.netset_forms.proofs.RangeItems.{ranges_end, ranges_end_cut}
use Rattle.netset_forms.proofs.blocks.put_ranges.Goals as goal

pub loop-range-init : goal.loop-range-init
loop-range-init g c =
    let held = g.W.Write.contents in
    let p = c.args.part.now in
    subst (λ z. IsPuttingRanges (layout_of p.frame) (IsMember p.set) (held c.args.out.now) (held c.args.out.now)
    c.args.piece.now.bytes c.args.piece.now.bytes true (ranges_left z))
    (sym c.into_iter-range-iterator.ensures.into_iter_gives)
    (ranges_start (layout_of p.frame) (IsMember p.set) (held c.args.out.now) c.args.piece.now.bytes
    (ranges_left c.ranges-range-items.result) c.ranges-range-items.ensures.ranges)

pub put_range-requires : goal.put_range-requires
put_range-requires g c =
    let held = g.W.Write.contents in
    let p = c.args.part.now in
    first_some (layout_of p.frame) (IsMember p.set) (held c.args.out.now) (held c.loop-range.out)
    c.args.piece.now.bytes c.loop-range.piece.bytes c.loop-range.none (ranges_left c.loop-range.range-iterator)
    (ranges_left c.next.new.self) (ip_range c.in-Some.range) c.in-Some.ensures.steps c.loop-range.invariant

pub loop-range-preserved : goal.loop-range-preserved
loop-range-preserved g c =
    let held = g.W.Write.contents in
    let p = c.args.part.now in
    let layout = layout_of p.frame in
    let r = ip_range c.in-Some.range in
    let none = c.loop-range.none in
    let here = held c.loop-range.out in
    let middle = held c.put.new.out in
    let end = held c.put_range.new.out in
    let piece = c.loop-range.piece.bytes in
    ranges_more layout (IsMember p.set) (held c.args.out.now) here end c.args.piece.now.bytes piece
    c.put_range.new.piece.bytes none (ranges_left c.loop-range.range-iterator) (ranges_left c.next.new.self) r
    c.in-Some.ensures.steps
    (put_then here middle end piece c.put.new.piece.bytes c.put_range.new.piece.bytes (lead_of layout none)
    (range_text r)
    (subst (λ z. IsInPieces here middle c.put.new.piece.bytes (piece ++ z)) c.lead.ensures c.in_ok-put.ensures.ok)
    c.in_ok-put_range.ensures.ok)
    c.loop-range.invariant

pub returns-in_err-put-clause-cut : goal.returns-in_err-put-clause-cut
returns-in_err-put-clause-cut g c =
    let held = g.W.Write.contents in
    let p = c.args.part.now in
    let layout = layout_of p.frame in
    let r = ip_range c.in-Some.range in
    let none = c.loop-range.none in
    let here = held c.loop-range.out in
    let end = held c.put.new.out in
    let piece = c.loop-range.piece.bytes in
    if_err c.from_residual.result
    (ranges_cut layout (IsMember p.set) (held c.args.out.now) here end c.args.piece.now.bytes piece none
    (ranges_left c.loop-range.range-iterator) (ranges_left c.next.new.self) r c.in-Some.ensures.steps
    (cut_first here end piece (lead_of layout none) (range_text r)
    (subst (IsCut here end piece) c.lead.ensures c.in_err-put.ensures.cut)) c.loop-range.invariant)

pub returns-in_err-put_range-clause-cut : goal.returns-in_err-put_range-clause-cut
returns-in_err-put_range-clause-cut g c =
    let held = g.W.Write.contents in
    let p = c.args.part.now in
    let layout = layout_of p.frame in
    let r = ip_range c.in-Some.range in
    let none = c.loop-range.none in
    let here = held c.loop-range.out in
    let middle = held c.put.new.out in
    let end = held c.put_range.new.out in
    let piece = c.loop-range.piece.bytes in
    if_err c.from_residual-in_err-put_range.result
    (ranges_cut layout (IsMember p.set) (held c.args.out.now) here end c.args.piece.now.bytes piece none
    (ranges_left c.loop-range.range-iterator) (ranges_left c.next.new.self) r c.in-Some.ensures.steps
    (cut_then here middle end piece c.put.new.piece.bytes (lead_of layout none) (range_text r)
    (subst (λ z. IsInPieces here middle c.put.new.piece.bytes (piece ++ z)) c.lead.ensures c.in_ok-put.ensures.ok)
    c.in_err-put_range.ensures.cut) c.loop-range.invariant)

pub returns-clause-ok : goal.returns-clause-ok
returns-clause-ok g c =
    let held = g.W.Write.contents in
    let p = c.args.part.now in
    OnOk_then c.put-2.result c.put-2.ensures.ok (λ put.
    ranges_end (layout_of p.frame) (IsMember p.set) (held c.args.out.now) (held c.loop-range.out)
    (held c.put-2.new.out) c.args.piece.now.bytes c.loop-range.piece.bytes c.put-2.new.piece.bytes c.loop-range.none
    (ranges_left c.loop-range.range-iterator) c.in-None.ensures.steps.0
    (subst (λ z. IsInPieces (held c.loop-range.out) (held c.put-2.new.out) c.put-2.new.piece.bytes
    (c.loop-range.piece.bytes ++ z)) c.end.ensures put) c.loop-range.invariant)

pub returns-clause-cut : goal.returns-clause-cut
returns-clause-cut g c =
    let held = g.W.Write.contents in
    let p = c.args.part.now in
    on_err_weaker c.put-2.result (λ cut.
    ranges_end_cut (layout_of p.frame) (IsMember p.set) (held c.args.out.now) (held c.loop-range.out)
    (held c.put-2.new.out) c.args.piece.now.bytes c.loop-range.piece.bytes c.loop-range.none
    (ranges_left c.loop-range.range-iterator) c.in-None.ensures.steps.0
    (subst (IsCut (held c.loop-range.out) (held c.put-2.new.out) c.loop-range.piece.bytes) c.end.ensures cut)
    c.loop-range.invariant) c.put-2.ensures.cut
