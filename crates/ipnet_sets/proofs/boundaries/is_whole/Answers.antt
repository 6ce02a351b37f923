-- A set has all numbers of the family if and only if its only boundary is 0.
use Rattle.std.proofs.Common.{length, map, arith}
use Rattle.std.proofs.lemmas.Bool.{eqb-true}
use Rattle.std.proofs.lemmas.List.{length-map}
use Rattle.ipnet_sets.proofs.CountLaws.{whole_has_one}
use Rattle.ipnet_sets.proofs.boundaries.is_whole.Goals as goal

pub returns-else-boundaries-eq1 : goal.returns-else-boundaries-eq1
returns-else-boundaries-eq1 g c =
    let xs = c.args.boundaries.now in
    let size = length-map xs g.T.Number.number in (
      λ t. absurd (omega (arith, eqb-true (length xs) 1 t)),
      λ e. absurd (omega (
        arith,
        size,
        (whole_has_one g.T.Number.family (map g.T.Number.number xs) c.requires e).0,
      )),
    )
