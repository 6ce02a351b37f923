-- Each turn puts the networks of the first range that is left.
use Rattle.std.proofs.Common.{◌++◌, sym, subst, true}
use Rattle.std.proofs.lemmas.Result.{on_err_weaker}
use Rattle.ipnet_base.specs.RangeOf.{ip_range}
use Rattle.ipnet.specs.SubnetsLeft.{ip_subnets_left}
use Rattle.ipnet_sets.specs.Members.{IsMember}
use Rattle.ipnet_sets.specs.RangesLeft.{ranges_left}
use Rattle.ipnet_text.proofs.ListsLaws.{OnOk_then}
use Rattle.ipnet_text.specs.Pieces.{IsInPieces}
use Rattle.netset_forms.specs.FormSteps.{layout_of, IsCut}
use Rattle.netset_forms.proofs.BlockItems.{IsFitting, IsPutting, putting_start, first_fits, putting_more, putting_cut}
use Rattle.netset_forms.proofs.BlockItems.{putting_end, putting_end_cut}
use Rattle.netset_forms.proofs.PieceLaws.{if_err}
use Rattle.netset_forms.proofs.blocks.put_blocks.Goals as goal

pub loop-range-init : goal.loop-range-init
loop-range-init g c =
    let held = g.W.Write.contents in
    let p = c.args.part.now in
    subst (λ z. IsPutting (layout_of p.frame) p.item p.min_length (IsMember p.set)
    (held c.args.out.now) (held c.args.out.now) c.args.piece.now.bytes c.args.piece.now.bytes true 5 (ranges_left z))
    (sym c.into_iter-range-iterator.ensures.into_iter_gives)
    (putting_start (layout_of p.frame) p.item p.min_length (IsMember p.set) (held c.args.out.now)
    c.args.piece.now.bytes (ranges_left c.ranges-range-items.result) c.requires (λ x m. m.fits)
    c.ranges-range-items.ensures.ranges)

pub walk_of-walk-requires : goal.walk_of-walk-requires
walk_of-walk-requires g c =
    let fit : IsFitting c.args.part.now.min_length (ip_range c.in-Some.range) =
    first_fits _ _ _ _ _ _ _ _ _ _ _ _ _ c.in-Some.ensures.steps c.loop-range.invariant in
    record { some = fit.some; fits = fit.fits }

pub loop-range-preserved : goal.loop-range-preserved
loop-range-preserved g c =
    let held = g.W.Write.contents in
    let p = c.args.part.now in
    putting_more (layout_of p.frame) p.item p.min_length (IsMember p.set) (held c.args.out.now)
    (held c.loop-range.out) (held c.put_walk.new.out) c.args.piece.now.bytes c.loop-range.piece.bytes
    c.put_walk.new.piece.bytes c.loop-range.place.none c.in_ok-place.place.none c.loop-range.place.number
    c.in_ok-place.place.number (ranges_left c.loop-range.range-iterator)
    (ranges_left c.next.new.self) (ip_range c.in-Some.range) (ip_subnets_left c.walk_of-walk.result)
    c.in-Some.ensures.steps c.walk_of-walk.ensures.blocks c.in_ok-place.ensures.none c.in_ok-place.ensures.number
    c.in_ok-place.ensures.ok
    c.loop-range.invariant

pub returns-in_err-place-clause-cut : goal.returns-in_err-place-clause-cut
returns-in_err-place-clause-cut g c =
    if_err c.from_residual.result
    (putting_cut _ _ _ _ _ _ _ _ _ _ _ _ _ _ _ c.in-Some.ensures.steps c.walk_of-walk.ensures.blocks
    c.in_err-place.ensures.cut c.requires c.loop-range.invariant)

pub returns-clause-ok : goal.returns-clause-ok
returns-clause-ok g c =
    let held = g.W.Write.contents in
    let p = c.args.part.now in
    OnOk_then c.put.result c.put.ensures.ok (λ put.
    putting_end (layout_of p.frame) p.item p.min_length (IsMember p.set) (held c.args.out.now)
    (held c.loop-range.out) (held c.put.new.out) c.args.piece.now.bytes c.loop-range.piece.bytes
    c.put.new.piece.bytes c.loop-range.place.none c.loop-range.place.number (ranges_left c.loop-range.range-iterator)
    c.in-None.ensures.steps.0
    (subst (λ z. IsInPieces (held c.loop-range.out) (held c.put.new.out) c.put.new.piece.bytes
    (c.loop-range.piece.bytes ++ z)) c.end.ensures put) c.requires c.loop-range.invariant)

pub returns-clause-cut : goal.returns-clause-cut
returns-clause-cut g c =
    let held = g.W.Write.contents in
    let p = c.args.part.now in
    on_err_weaker c.put.result (λ cut.
    putting_end_cut (layout_of p.frame) p.item p.min_length (IsMember p.set) (held c.args.out.now)
    (held c.loop-range.out) (held c.put.new.out) c.args.piece.now.bytes c.loop-range.piece.bytes
    c.loop-range.place.none c.loop-range.place.number
    (ranges_left c.loop-range.range-iterator) c.in-None.ensures.steps.0
    (subst (IsCut (held c.loop-range.out) (held c.put.new.out) c.loop-range.piece.bytes) c.end.ensures cut)
    c.requires c.loop-range.invariant) c.put.ensures.cut
