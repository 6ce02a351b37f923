-- With an odd count of boundaries the set runs to the family's last number; with an even one it ends just before the
-- last boundary.
use Rattle.std.proofs.Common.{◌≡◌, ◌%◌, ◌<◌, length, map, sym, ap, ◌∙◌, subst, arith}
use Rattle.std.proofs.lemmas.List.{length-map}
use Rattle.ipnet_base.specs.Address.{greatest_number}
use Rattle.ipnet_sets.specs.Boundaries.{IsGreatestInside}
use Rattle.ipnet_sets.proofs.InsideLaws.{last_at, some_from_empty}
use Rattle.ipnet_sets.proofs.EndLaws.{greatest_open, greatest_closed_at, last_above_zero, greatest_shows_some}
use Rattle.ipnet_sets.proofs.boundaries.last.Goals as goal

pub returns-then-boundaries-eq1-clause-none : goal.returns-then-boundaries-eq1-clause-none
returns-then-boundaries-eq1-clause-none g c =
    let boundaries = map g.T.Number.number c.args.boundaries.now in
    let size = length-map c.args.boundaries.now g.T.Number.number in
    let odd : length boundaries % 2 ≡ 1 = ap (λ n. n % 2) size ∙ c.if-boundaries-eq1.true in (
      λ t. cc,
      λ never. absurd (greatest_shows_some g.T.Number.family boundaries (greatest_number g.T.Number.family)
          (greatest_open g.T.Number.family boundaries c.requires odd) never),
    )

pub returns-then-boundaries-eq1-clause-some : goal.returns-then-boundaries-eq1-clause-some
returns-then-boundaries-eq1-clause-some g c =
    let boundaries = map g.T.Number.number c.args.boundaries.now in
    let size = length-map c.args.boundaries.now g.T.Number.number in
    let odd : length boundaries % 2 ≡ 1 = ap (λ n. n % 2) size ∙ c.if-boundaries-eq1.true in
    subst (IsGreatestInside g.T.Number.family boundaries) (sym c.last.ensures)
    (greatest_open g.T.Number.family boundaries c.requires odd)

pub previous-requires : goal.previous-requires
previous-requires g c =
    let number = g.T.Number.number in
    let size = length-map c.args.boundaries.now number in
    let some : 0 < length c.args.boundaries.now = some_from_empty (length c.args.boundaries.now) c.is_empty.result
    c.is_empty.ensures c.if-is_empty.false in
    last_above_zero g.T.Number.family (map number c.args.boundaries.now) (number c.index-boundaries-boundaries.result)
    c.requires
    (omega (arith, size, some))
    (λ d. last_at number c.args.boundaries.now c.index-boundaries-boundaries.result d some
    c.index-boundaries-boundaries.is)
    (λ odd. omega (arith, sym (ap (λ n. n % 2) size) ∙ odd))

pub returns-clause-none : goal.returns-clause-none
returns-clause-none g c =
    let number = g.T.Number.number in
    let boundaries = map number c.args.boundaries.now in
    let size = length-map c.args.boundaries.now number in
    let some : 0 < length c.args.boundaries.now = some_from_empty (length c.args.boundaries.now) c.is_empty.result
    c.is_empty.ensures c.if-is_empty.false in
    let greatest : IsGreatestInside g.T.Number.family boundaries (number c.previous.result)
    =
    greatest_closed_at g.T.Number.family boundaries (number c.index-boundaries-boundaries.result)
    (number c.previous.result)
    c.requires (omega (arith, size, some))
    (λ d. last_at number c.args.boundaries.now c.index-boundaries-boundaries.result d some
    c.index-boundaries-boundaries.is)
    c.previous.ensures (λ odd. omega (arith, sym (ap (λ n. n % 2) size) ∙ odd)) in (
      λ t. cc,
      λ never. absurd (greatest_shows_some g.T.Number.family boundaries (number c.previous.result) greatest
          never),
    )

pub returns-clause-some : goal.returns-clause-some
returns-clause-some g c =
    let number = g.T.Number.number in
    let size = length-map c.args.boundaries.now number in
    let some : 0 < length c.args.boundaries.now = some_from_empty (length c.args.boundaries.now) c.is_empty.result
    c.is_empty.ensures c.if-is_empty.false in
    greatest_closed_at g.T.Number.family (map number c.args.boundaries.now)
    (number c.index-boundaries-boundaries.result)
    (number c.previous.result) c.requires (omega (arith, size, some))
    (λ d. last_at number c.args.boundaries.now c.index-boundaries-boundaries.result d some
    c.index-boundaries-boundaries.is)
    c.previous.ensures (λ odd. omega (arith, sym (ap (λ n. n % 2) size) ∙ odd))
