use Rattle.std.proofs.Common.{◌<◌, ◌≤◌, ◌-◌, arith}
use Rattle.std.proofs.lemmas.Bool.Decides.{nat_tests}
use Rattle.ipnet_maps.proofs.LayoutLaws.{doubled_side, same_side, side_fits}
use Rattle.ipnet_maps.proofs.layout.Layout.+sides_of.Goals as goal

pub overflow_mul-result : goal.overflow_mul-result
overflow_mul-result t c =
    let few : c.args.count - 1 ≤ 20 = omega (arith, c.requires, c.args.self.few) in
    let small = side_fits (c.args.count - 1) c.sides_of-outer.result.width few c.sides_of-outer.ensures.narrow in
    omega (arith, small)

pub overflow_mul-result-in-Row : goal.overflow_mul-result-in-Row
overflow_mul-result-in-Row t c =
    let few : c.args.count - 1 ≤ 20 = omega (arith, c.requires, c.args.self.few) in
    let small = side_fits (c.args.count - 1) c.sides_of-outer.result.height few c.sides_of-outer.ensures.low in
    omega (arith, small)

pub returns-in-Column-clause-narrow : goal.returns-in-Column-clause-narrow
returns-in-Column-clause-narrow t c =
    let some : 0 < c.args.count = grind (arith, nat_tests, c.if-count-eq0.false) in
    doubled_side c.args.count c.sides_of-outer.result.width some c.sides_of-outer.ensures.narrow

pub returns-in-Column-clause-low : goal.returns-in-Column-clause-low
returns-in-Column-clause-low t c =
    let some : 0 < c.args.count = grind (arith, nat_tests, c.if-count-eq0.false) in
    same_side c.args.count c.sides_of-outer.result.height some c.sides_of-outer.ensures.low

pub returns-in-Row-clause-narrow : goal.returns-in-Row-clause-narrow
returns-in-Row-clause-narrow t c =
    let some : 0 < c.args.count = grind (arith, nat_tests, c.if-count-eq0.false) in
    same_side c.args.count c.sides_of-outer.result.width some c.sides_of-outer.ensures.narrow

pub returns-in-Row-clause-low : goal.returns-in-Row-clause-low
returns-in-Row-clause-low t c =
    let some : 0 < c.args.count = grind (arith, nat_tests, c.if-count-eq0.false) in
    doubled_side c.args.count c.sides_of-outer.result.height some c.sides_of-outer.ensures.low
