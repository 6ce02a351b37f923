use Rattle.std.proofs.Common.{arith}
use Rattle.ipnet_maps.proofs.LayoutLaws.{start_fits}
use Rattle.ipnet_maps.proofs.layout.Layout.rectangle.Goals as goal

pub overflow_mul-place : goal.overflow_mul-place
overflow_mul-place c =
    let small = start_fits c.args.self.depth c.args.low_bits c.place_without-outer.result.column
    c.sides_of-sides.result.width c.args.self.few c.requires.low c.place_without-outer.ensures.narrow
    c.sides_of-sides.ensures.narrow in
    omega (arith, small)

pub overflow_mul-place-2 : goal.overflow_mul-place-2
overflow_mul-place-2 c =
    let small = start_fits c.args.self.depth c.args.low_bits c.place_without-outer.result.row
    c.sides_of-sides.result.height c.args.self.few c.requires.low c.place_without-outer.ensures.low
    c.sides_of-sides.ensures.low in
    omega (arith, small)
