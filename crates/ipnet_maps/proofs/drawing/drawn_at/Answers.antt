use Rattle.std.proofs.Common.{◌≡◌, ◌+◌, ◌<◌, false, true, All, inl, inr, refl, sym, subst, arith}
use Rattle.std.specs.List.{AllZip}
use Rattle.std.proofs.lemmas.Bool.Decides.{nat_tests}
use Rattle.ipnet_base.specs.Blocks.{AreMaximalBlocks}
use Rattle.ipnet.specs.NetLaws.{ip_valid}
use Rattle.ipnet.specs.NetworkOf.{ip_network}
use Rattle.ipnet_sets.specs.Members.{IsMember}
use Rattle.ipnet_maps.specs.Layers.{IsClassCells, AreCellsIn, IsLayerOfCells}
use Rattle.ipnet_maps.specs.Lists.{IsListed, HasClass, classes_of}
use Rattle.ipnet_maps.proofs.DrawingLaws.{whole_cells_in, layers_shown, too_many}
use Rattle.ipnet_maps.proofs.ListsLaws.{classes_of_lists}
use Rattle.ipnet_maps.proofs.drawing.drawn_at.Goals as goal
use Rattle.ipnet_maps.proofs.drawing.drawn_at.Goals.{else-depth-gt16-via-then-depth-gt16+else-not-are_few}
use Rattle.ipnet_maps.proofs.drawing.drawn_at.Goals.{else-depth-gt16-via-else-depth-gt16}

pub returns-then-not-are_few-clause-many : goal.returns-then-not-are_few-clause-many
returns-then-not-are_few-clause-many c =
    let lists = c.args.lists.now in
    let frame = ip_network c.args.frame.now in
    let cells = c.in_ok-cells.cells.items in
    let more : 16 < c.args.depth = grind (arith, nat_tests, c.if-depth-gt16.true) in
    let of_cells = subst (λ z. AllZip (IsClassCells (HasClass lists) (z + c.args.depth)) (classes_of lists) cells)
    c.prefix_len.ensures c.in_ok-cells.ensures in (
      more,
      too_many (IsListed lists) (HasClass lists) (classes_of lists) frame c.args.depth (ip_valid c.args.frame.now)
          c.requires.depth.fits (classes_of_lists lists) c.requires.inside cells of_cells
          (λ networks zip le.
          let here = subst (λ z. AllZip (λ d list. AreMaximalBlocks (IsMember d.cells) 0 list) z networks)
          (sym c.as_slice.ensures.value) zip in
          let wrong : false ≡ true = (c.if-not-are_few.ensures networks here).1 le in
          absurd (cc)),
    )

pub layers_of-requires-clause-cells : goal.layers_of-requires-clause-cells
layers_of-requires-clause-cells c =
    let lists = c.args.lists.now in
    let frame = ip_network c.args.frame.now in
    let cells = c.in_ok-cells.cells.items in
    let of_cells = subst (λ z. AllZip (IsClassCells (HasClass lists) (z + c.args.depth)) (classes_of lists) cells)
    c.prefix_len.ensures c.in_ok-cells.ensures in
    subst (All (AreCellsIn frame c.args.depth)) (sym c.as_slice-2.ensures.value)
    (whole_cells_in (IsListed lists) (HasClass lists) (classes_of lists) frame c.args.depth
    (ip_valid c.args.frame.now) c.requires.depth.fits (classes_of_lists lists) c.requires.inside cells of_cells)

pub returns-clause-drawn : goal.returns-clause-drawn
returns-clause-drawn c =
    let lists = c.args.lists.now in
    let frame = ip_network c.args.frame.now in
    let cells = c.in_ok-cells.cells.items in
    let of_cells = subst (λ z. AllZip (IsClassCells (HasClass lists) (z + c.args.depth)) (classes_of lists) cells)
    c.prefix_len.ensures c.in_ok-cells.ensures in
    let of_layers = subst (λ z. AllZip (IsLayerOfCells frame c.args.depth) z c.in_ok-layers.layers.items)
    c.as_slice-2.ensures.value c.in_ok-layers.ensures in (
      refl,
      layers_shown (IsListed lists) (HasClass lists) (classes_of lists) frame c.args.depth
          (ip_valid c.args.frame.now) c.requires.depth.fits (classes_of_lists lists) c.requires.inside cells
          c.in_ok-layers.layers.items of_cells of_layers
          (λ networks zip. elim c.else-depth-gt16.branch [
            | else-depth-gt16-via-then-depth-gt16+else-not-are_few w ↦
                let here = subst (λ z. AllZip (λ d list. AreMaximalBlocks (IsMember d.cells) 0 list) z networks)
                (sym w.as_slice.ensures.value) zip in
                inr ((w.if-not-are_few.ensures networks here).0 refl)
            | else-depth-gt16-via-else-depth-gt16 w ↦ inl (grind (arith, nat_tests, w.if-depth-gt16.false))
          ]),
    )
