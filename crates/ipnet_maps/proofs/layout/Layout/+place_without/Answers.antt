use Rattle.std.proofs.Common.{◌<◌, ◌%◌, arith}
use Rattle.std.proofs.lemmas.Bool.Decides.{nat_tests}
use Rattle.std.proofs.lemmas.Nat.{mod_below}
use Rattle.ipnet_maps.proofs.LayoutLaws.{half_block, one_more_bit, no_more_bit}
use Rattle.ipnet_maps.proofs.layout.Layout.+place_without.Goals as goal

pub place_without-outer-requires : goal.place_without-outer-requires
place_without-outer-requires t c =
    let less : c.args.left_out < c.args.self.depth
    = grind (arith, nat_tests, c.if-left_out-self.false, c.requires.out) in (
      omega (arith, less),
      (omega (arith, less), half_block c.args.self.depth c.args.left_out c.args.block less c.requires.fits),
    )

pub returns-in-Column-clause-narrow : goal.returns-in-Column-clause-narrow
returns-in-Column-clause-narrow t c =
    let less : c.args.left_out < c.args.self.depth
    = grind (arith, nat_tests, c.if-left_out-self.false, c.requires.out) in
    one_more_bit c.args.self.depth c.args.left_out c.place_without-outer.result.column (c.args.block % 2) less
    c.place_without-outer.ensures.narrow (mod_below c.args.block 2 (omega arith))

pub returns-in-Column-clause-low : goal.returns-in-Column-clause-low
returns-in-Column-clause-low t c =
    let less : c.args.left_out < c.args.self.depth
    = grind (arith, nat_tests, c.if-left_out-self.false, c.requires.out) in
    no_more_bit c.args.self.depth c.args.left_out c.place_without-outer.result.row less
    c.place_without-outer.ensures.low

pub returns-in-Row-clause-narrow : goal.returns-in-Row-clause-narrow
returns-in-Row-clause-narrow t c =
    let less : c.args.left_out < c.args.self.depth
    = grind (arith, nat_tests, c.if-left_out-self.false, c.requires.out) in
    no_more_bit c.args.self.depth c.args.left_out c.place_without-outer.result.column less
    c.place_without-outer.ensures.narrow

pub returns-in-Row-clause-low : goal.returns-in-Row-clause-low
returns-in-Row-clause-low t c =
    let less : c.args.left_out < c.args.self.depth
    = grind (arith, nat_tests, c.if-left_out-self.false, c.requires.out) in
    one_more_bit c.args.self.depth c.args.left_out c.place_without-outer.result.row (c.args.block % 2) less
    c.place_without-outer.ensures.low (mod_below c.args.block 2 (omega arith))
