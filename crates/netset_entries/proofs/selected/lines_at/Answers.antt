-- One line more.
use Rattle.std.proofs.Common.{◌++◌, ◌∷◌, [], ◌∙◌, ap}
use Rattle.netset_entries.specs.declared.span.Family.TheVariants.{Ipv4}
use Rattle.netset_entries.proofs.SelectLaws.{place_line}
use Rattle.netset_entries.proofs.selected.lines_at.Goals as goal

pub loop-place-preserved : goal.loop-place-preserved
loop-place-preserved c = λ within.
    place_line c.args.text.now c.args.places.now c.loop-place.place-index
    (record { family = Ipv4; span = record { first = 0; last = 0; place = 0 }; end = 0 }) c.loop-place.lines.items
    c.text_at.result.now c.extend_from_slice-in-loop-place.new.self.items c.loop-place-test.true within
    (c.loop-place.invariant within) c.text_at.ensures
    (c.in_ok-extend_from_slice-2.ensures.items ∙ ap (λ z. z ++ 10 ∷ []) c.in_ok-extend_from_slice.ensures.items)
