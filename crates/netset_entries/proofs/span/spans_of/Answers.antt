-- The span of the entry at the place is added if it has one; a stable sort leaves ties in the order of the list.
use Rattle.std.proofs.Common.{rules, of_calls, ◌≡◌, ◌+◌, true, false, map, get_or, sym, ap, subst, arith, ◌∙◌}
use Rattle.std.proofs.lemmas.Fn.{always_returns_same}
use Rattle.std.proofs.lemmas.List.{length-map}
use Rattle.std.proofs.lemmas.List.Sorted.{IsNonDecreasingBy-from_sort_by_key, ties_still_rise}
use Rattle.ipnet_base.proofs.ListLaws.{at_place}
use Rattle.netset_entries.specs.EntryLineOf.{numbered}
use Rattle.netset_entries.specs.EntryPlaces.{IsEntryAt}
use Rattle.netset_entries.specs.Spans.{family_of}
use Rattle.netset_entries.proofs.RedundancyLaws.{entry_of_line}
use Rattle.netset_entries.proofs.WitnessLaws.{one_entry}
use Rattle.netset_entries.proofs.SpanLaws.{AreSpansTo, spans_start, spans_push, spans_skip, spans_sorted}
use Rattle.netset_entries.proofs.SpanLaws.{sorted_by_place}
use Rattle.netset_entries.proofs.span.spans_of.Goals as goal
use Rattle.netset_entries.proofs.span.spans_of.Goals.{then-flags-place+in-Some+in_ok-push-in-Some}
use Rattle.netset_entries.proofs.span.spans_of.Goals.{then-flags-place+in-None, else-flags-place}

pub loop-place-init : goal.loop-place-init
loop-place-init c =
    spans_start (map numbered c.args.lines.now) c.args.flags.now (family_of c.args.family)
    c.new-spans.result.items c.new-spans.ensures.items

pub loop-place-preserved : goal.loop-place-preserved
loop-place-preserved c =
    let lines = c.args.lines.now in
    let entries = map numbered lines in
    let flags = c.args.flags.now in
    let f = family_of c.args.family in
    let place = c.loop-place.place in
    let old = c.loop-place.spans.items in
    let h = c.loop-place.invariant in
    elim c.if-flags-place.branch [
      | then-flags-place+in-Some+in_ok-push-in-Some w ↦
          let l = get_or lines place w.index-lines-place.result in
          let is = w.in-Some.ensures.some in
          let at = entry_of_line lines place l c.loop-place-test.true
          (at_place lines place l w.index-lines-place.result c.loop-place-test.true) in
          subst (AreSpansTo entries flags f (place + 1))
          (sym (ap (λ v. v.items) w.spans-is ∙ w.in_ok-push-in-Some.ensures.items))
          (spans_push entries flags f place old w.in-Some.span h (record {
            entry = numbered l;
            at = subst (λ z. IsEntryAt entries z (numbered l)) (sym is.at) at;
            range = is.is;
            flag = subst (λ z. get_or flags z false ≡ true) (sym is.at) w.if-flags-place.true;
            some = is.some;
          }) is.at)
      | then-flags-place+in-None w ↦
          let l = get_or lines place w.index-lines-place.result in
          let at = entry_of_line lines place l c.loop-place-test.true
          (at_place lines place l w.index-lines-place.result c.loop-place-test.true) in
          subst (AreSpansTo entries flags f (place + 1)) (sym (ap (λ v. v.items) w.spans-is))
          (spans_skip entries flags f place old h (λ flagged.
          let same = one_entry entries place flagged.entry (numbered l) flagged.at at in
          w.in-None.ensures.none (ap (λ e. e.range.family) (sym same) ∙ flagged.of_family)
          (omega (
            arith,
            flagged.some,
            ap (λ e. e.range.start) same,
            ap (λ e. e.range.end) same,
          ))))
      | else-flags-place w ↦
          subst (AreSpansTo entries flags f (place + 1)) (sym (ap (λ v. v.items) w.spans-is))
          (spans_skip entries flags f place old h (λ flagged.
          let is = flagged.flag in let not = w.if-flags-place.false in absurd cc))
    ]

pub returns : goal.returns
returns c =
    let entries = map numbered c.args.lines.now in
    let spans = c.loop-place.spans.items in
    let sorted = c.sort_by_key.new.self.items in
    spans_sorted entries c.args.flags.now (family_of c.args.family) c.loop-place.place spans sorted
    c.loop-place.invariant (omega (arith, length-map c.args.lines.now numbered, c.loop-place-test.false))
    c.in_ok-sort_by_key.ensures.permutation
    (IsNonDecreasingBy-from_sort_by_key (λ s. s.first) _ c.in_ok-sort_by_key.ensures.sorted
    (λ a r q k. search rules))
    (ties_still_rise (λ s. s.place) (λ s. s.first) spans sorted
    (sorted_by_place spans c.loop-place.invariant.rising)
    (c.in_ok-sort_by_key.ensures.stable (λ s. s.first)
    (always_returns_same _ _ _ (λ a r f k. search (rules, of_calls)))))
