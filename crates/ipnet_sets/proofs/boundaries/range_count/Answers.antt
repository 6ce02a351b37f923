use Rattle.std.proofs.Common.{◌+◌, ◌/◌, ◌%◌, map, sym, ap, ◌∙◌, arith}
use Rattle.std.proofs.lemmas.List.{length-map}
use Rattle.ipnet_sets.proofs.RangeEndLaws.{length-ranges_of, boundaries_fit}
use Rattle.ipnet_sets.proofs.boundaries.range_count.Goals as goal

pub returns-clause-count : goal.returns-clause-count
returns-clause-count g c =
    let number = g.T.Number.number in
    ap (λ n. n / 2 + n % 2) (sym (length-map c.args.boundaries.now number))
    ∙ length-ranges_of g.T.Number.family (map number c.args.boundaries.now)

pub returns-clause-fits : goal.returns-clause-fits
returns-clause-fits g c =
    let number = g.T.Number.number in
    omega (
      arith,
      length-map c.args.boundaries.now number,
      boundaries_fit g.T.Number.family (map number c.args.boundaries.now) c.requires,
    )
