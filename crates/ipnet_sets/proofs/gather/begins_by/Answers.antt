-- The last boundary with an even index begins the last range.
use Rattle.std.proofs.Common.{◌≡◌, ◌-◌, ◌*◌, ◌/◌, ◌<◌, ℕ, Bool, not, true, get_or, length, map, ap, ◌∙◌, arith, inl}
use Rattle.std.proofs.Common.{inr}
use Rattle.std.proofs.lemmas.Bool.{cases_lt, cases_Bool}
use Rattle.std.proofs.lemmas.List.{length-map}
use Rattle.ipnet_base.proofs.ResultLaws.{true_gives}
use Rattle.ipnet_sets.proofs.InsideLaws.{number_at, some_from_empty}
use Rattle.ipnet_sets.proofs.JoinLaws.{begins_by_last}
use Rattle.ipnet_sets.proofs.gather.begins_by.Goals as goal

false_by_not : (b : Bool) → not b ≡ true → b ≡ true → ⊥
false_by_not b e f = cc

pub returns-else-is_empty : goal.returns-else-is_empty
returns-else-is_empty g c =
    let number = g.T.Number.number in
    let words = c.args.boundaries.now in
    let n = number c.args.first in
    let boundary = c.index-boundaries-boundaries.result in
    let some : 0 < length words = some_from_empty (length words) c.is_empty.result c.is_empty.ensures
    c.if-is_empty.false in
    let size = length-map words number in
    let at : (d : ℕ) → get_or (map number words) ((length (map number words) - 1) / 2 * 2) d ≡ number boundary
    = λ d. ap (λ k. get_or (map number words) ((k - 1) / 2 * 2) d) size
    ∙ number_at number words ((length words - 1) / 2 * 2) d boundary (omega (arith, some))
    c.index-boundaries-boundaries.is in (
      λ t. begins_by_last g.T.Number.family (map number words) n c.requires (omega (arith, some, size))
          (λ d. elim (cases_lt n (number boundary)) [
            | inl lt ↦ absurd (false_by_not c.is_below.result t (c.is_below.ensures.1 lt))
            | inr ge ↦ omega (arith, ge, at d)
          ]),
      λ h. elim (cases_Bool c.is_below.result) [
        | inr e ↦ ap not e
        | inl e ↦ absurd (omega (
          arith,
          true_gives c.is_below.result c.is_below.ensures e,
          at 0,
          h ((length (map number words) - 1) / 2 * 2) 0 (omega (arith, some, size)) (omega arith),
        ))
      ],
    )
