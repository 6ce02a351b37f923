-- The entry at the place is dropped, or it is kept.
use Rattle.std.proofs.Common.{◌+◌, ◌<◌, false, length, map, ap, sym, subst, arith, ◌∙◌}
use Rattle.std.proofs.lemmas.List.{length-map}
use Rattle.std.proofs.lemmas.List.Elements.{All-push}
use Rattle.ipnet_base.proofs.ListLaws.{at_place}
use Rattle.netset_entries.specs.EntryLineOf.{numbered}
use Rattle.netset_entries.specs.Covers.{IsWithin, IsCoveredWithin}
use Rattle.netset_entries.proofs.RedundancyLaws.{AreDroppedTo, dropped_push, dropped_skip, dropped_end}
use Rattle.netset_entries.proofs.redundancy.Kept.dropped.Goals as goal
use Rattle.netset_entries.proofs.redundancy.Kept.dropped.Goals.{then-not-index+in_ok-push, else-not-index}

pub loop-place-preserved : goal.loop-place-preserved
loop-place-preserved c =
    let entries = map numbered c.args.lines.now in
    let kept = c.args.self.now in
    let place = c.loop-place.place in
    let old = c.loop-place.covered.items in
    let h = c.loop-place.invariant in
    let less : place < length kept.flags.items = omega (
      arith,
      c.loop-place-test.true,
      length-map c.args.lines.now numbered,
      c.requires.kept.flags,
    ) in
    let same_flag = at_place kept.flags.items place false c.index.result.now less in
    elim c.if-not-index.branch [
      | then-not-index+in_ok-push w ↦
          let same = ap (λ v. v.items) w.covered-is ∙ w.in_ok-push.ensures.items in record {
            within = subst (IsCoveredWithin kept) (sym same)
                (All-push (IsWithin kept) old w.cover.result h.within w.cover.ensures.within);
            dropped = subst (AreDroppedTo entries kept (place + 1)) (sym same)
                (dropped_push entries kept place old w.cover.result h.dropped
                (λ k.
                let is = c.index.ensures in
                let t = w.if-not-index.true in
                let s = same_flag in absurd cc) w.cover.ensures.entry
                w.cover.ensures.shortest);
          }
      | else-not-index w ↦
          let same = ap (λ v. v.items) w.covered-is in record {
            within = subst (IsCoveredWithin kept) (sym same) h.within;
            dropped = subst (AreDroppedTo entries kept (place + 1)) (sym same)
                (dropped_skip entries kept place old h.dropped
                (same_flag ∙ sym c.index.ensures ∙ w.if-not-index.false));
          }
    ]

pub returns-clause-dropped : goal.returns-clause-dropped
returns-clause-dropped c =
    dropped_end (map numbered c.args.lines.now) c.args.self.now c.loop-place.place c.loop-place.covered.items
    c.loop-place.invariant.dropped
    (omega (
      arith,
      length-map c.args.lines.now numbered,
      c.loop-place-test.false,
      c.loop-place.auto.place-end,
    ))
