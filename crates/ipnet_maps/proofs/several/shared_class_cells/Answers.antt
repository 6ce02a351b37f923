use Rattle.std.proofs.Common.{[], ◌∷◌, ◌++◌, refl, ap, ◌∙◌}
use Rattle.ipnet_sets.specs.Members.{IsMember}
use Rattle.ipnet_maps.specs.declared.class.Class.TheVariants.{Overlap, Several, PartOf, WholeOf}
use Rattle.ipnet_maps.specs.declared.layers.ClassCells.{ClassCells}
use Rattle.ipnet_maps.proofs.SeveralLaws.{overlap_cells, several_cells, part_class, whole_class}
use Rattle.ipnet_maps.proofs.SeveralLaws.{cells_start, cells_more}
use Rattle.ipnet_maps.proofs.several.shared_class_cells.Goals as goal

pub loop-place-init : goal.loop-place-init
loop-place-init c =
    let sets = c.args.sets.now in
    let len = c.args.cell_len in
    let overlap = c.in_ok-overlap.overlap in
    let several = c.in_ok-several.several in
    cells_start sets len c.new-list.result.items c.push.new.self.items c.push-2.new.self.items
    (record { class = Overlap; cells = overlap }) (record { class = Several; cells = several })
    c.new-list.ensures.items c.in_ok-push.ensures.items c.in_ok-push-2.ensures.items (
      refl,
      λ x. overlap_cells sets len x (IsMember c.in_ok-both.both) (IsMember overlap x) c.in_ok-both.ensures
          (c.in_ok-overlap.ensures x),
    ) (
      refl,
      λ x. several_cells sets len x (IsMember overlap x) (IsMember c.in_ok-two.two x) (IsMember several x)
          (overlap_cells sets len x (IsMember c.in_ok-both.both) (IsMember overlap x) c.in_ok-both.ensures
          (c.in_ok-overlap.ensures x)) (c.in_ok-two.ensures x) (c.in_ok-several.ensures.members x),
    )

pub loop-place-preserved : goal.loop-place-preserved
loop-place-preserved c =
    let sets = c.args.sets.now in
    let len = c.args.cell_len in
    let place = c.loop-place.place in
    let set = c.index-sets-place.result in
    let single = c.in_ok-part.field-0 in
    let part : ClassCells = record { class = PartOf place; cells = single.part } in
    let whole : ClassCells = record { class = WholeOf place; cells = single.whole } in
    cells_more sets len place c.loop-place.list.items c.push-in-loop-place-2.new.self.items part whole
    c.loop-place.invariant (
      refl,
      λ x. part_class sets len x (IsMember c.in_ok-two.two x) (c.in_ok-two.ensures x) place set c.loop-place-test.true
          c.index-sets-place.is (IsMember single.part x) (c.in_ok-part.ensures.part x),
    ) (
      refl,
      λ x. whole_class sets len x (IsMember c.in_ok-two.two x) (c.in_ok-two.ensures x) place set c.loop-place-test.true
          c.index-sets-place.is (IsMember single.whole x) (c.in_ok-part.ensures.whole x),
    ) (c.in_ok-push-4.ensures.items ∙ ap (λ z. z ++ whole ∷ []) c.in_ok-push-3.ensures.items)
