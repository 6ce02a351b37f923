-- Nothing is inside before the first boundary, and the first boundary itself is.
use Rattle.std.proofs.Common.{◌<◌, length, map, arith}
use Rattle.std.proofs.lemmas.List.{length-map}
use Rattle.ipnet_sets.specs.Boundaries.{IsLeastInside}
use Rattle.ipnet_sets.proofs.InsideLaws.{number_at, some_from_empty}
use Rattle.ipnet_sets.proofs.EndLaws.{least_inside_at, least_shows_some}
use Rattle.ipnet_sets.proofs.boundaries.first.Goals as goal

pub returns-clause-none : goal.returns-clause-none
returns-clause-none g c =
    let number = g.T.Number.number in
    let boundaries = map number c.args.boundaries.now in
    let boundary = c.index-boundaries-0.result in
    let some : 0 < length c.args.boundaries.now = some_from_empty (length c.args.boundaries.now) c.is_empty.result
    c.is_empty.ensures c.if-is_empty.false in
    let size = length-map c.args.boundaries.now number in
    let least : IsLeastInside g.T.Number.family boundaries (number boundary)
    = least_inside_at g.T.Number.family boundaries (number boundary) c.requires (omega (arith, size, some))
    (λ d. number_at number c.args.boundaries.now 0 d boundary some c.index-boundaries-0.is) in
    (λ t. cc, λ never. absurd (least_shows_some g.T.Number.family boundaries (number boundary) least never))

pub returns-clause-some : goal.returns-clause-some
returns-clause-some g c =
    let number = g.T.Number.number in
    let boundary = c.index-boundaries-0.result in
    let some : 0 < length c.args.boundaries.now = some_from_empty (length c.args.boundaries.now) c.is_empty.result
    c.is_empty.ensures c.if-is_empty.false in
    let size = length-map c.args.boundaries.now number in
    least_inside_at g.T.Number.family (map number c.args.boundaries.now) (number boundary) c.requires
    (omega (arith, size, some))
    (λ d. number_at number c.args.boundaries.now 0 d boundary some c.index-boundaries-0.is)
