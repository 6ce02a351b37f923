-- The boundaries ascend, so the last one decides.
use Rattle.std.proofs.Common.{◌-◌, ◌<◌, get_or, length, map, ap, arith, inl, inr}
use Rattle.std.proofs.lemmas.Bool.{cases_lt}
use Rattle.std.proofs.lemmas.List.{length-map}
use Rattle.ipnet_base.proofs.ResultLaws.{true_gives, false_gives}
use Rattle.ipnet_sets.proofs.InsideLaws.{number_at, some_from_empty}
use Rattle.ipnet_sets.proofs.JoinLaws.{below_by_last}
use Rattle.ipnet_sets.proofs.gather.ends_before.Goals as goal

pub returns-else-is_empty-clause-before : goal.returns-else-is_empty-clause-before
returns-else-is_empty-clause-before g c e =
    let number = g.T.Number.number in
    let words = c.args.boundaries.now in
    let boundary = c.index-boundaries-boundaries.result in
    let some : 0 < length words = some_from_empty (length words) c.is_empty.result c.is_empty.ensures
    c.if-is_empty.false in
    let size = length-map words number in
    below_by_last g.T.Number.family (map number words) (number c.args.first) c.requires (λ d. omega (
      arith,
      true_gives c.is_below.result c.is_below.ensures e,
      ap (λ k. get_or (map number words) (k - 1) d) size,
      number_at number words (length words - 1) d boundary (omega (arith, some)) c.index-boundaries-boundaries.is,
    ))

pub returns-else-is_empty-clause-later : goal.returns-else-is_empty-clause-later
returns-else-is_empty-clause-later g c e =
    let number = g.T.Number.number in
    let words = c.args.boundaries.now in
    let boundary = c.index-boundaries-boundaries.result in
    let some : 0 < length words = some_from_empty (length words) c.is_empty.result c.is_empty.ensures
    c.if-is_empty.false in (
      some,
      λ d. elim (cases_lt (number boundary) (number c.args.first)) [
        | inl lt ↦ absurd (false_gives c.is_below.result c.is_below.ensures e lt)
        | inr ge ↦ omega (
          arith,
          ge,
          number_at number words (length words - 1) d boundary (omega (arith, some)) c.index-boundaries-boundaries.is,
        )
      ],
    )
