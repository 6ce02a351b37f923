use Rattle.std.proofs.Common.{map, sym, inl, inr, arith}
use Rattle.std.proofs.lemmas.Bool.{cases_lt, false≢true}
use Rattle.ipnet_sets.proofs.JoinLaws.{gathered_more, gathered_whole}
use Rattle.ipnet_sets.proofs.gather.join_sorted.Goals as goal

pub loop-range-preserved : goal.loop-range-preserved
loop-range-preserved g c =
    let number = g.T.Number.number in
    gathered_more (λ r. number r.first) (λ r. number r.last) g.T.Number.family c.args.ranges.now
    c.loop-range.range-index (map number c.loop-range.boundaries.items) (map number c.join_range.new.boundaries.items)
    c.range-item.result c.requires (omega arith) c.range-item.is c.in_ok-join_range.ensures.joined
    c.loop-range.invariant

-- A range that needs memory has its first number.
pub returns-in_err-join_range-clause-empty : goal.returns-in_err-join_range-clause-empty
returns-in_err-join_range-clause-empty g c = λ none.
    let number = g.T.Number.number in
    let range = c.range-item.result in
    elim (cases_lt (number range.last) (number range.first)) [
      | inl below ↦ absurd (false≢true (c.in_err-join_range.ensures.empty below))
      | inr some ↦ absurd (none (number range.first) (omega (arith, some, c.fits.ensures))
          (c.loop-range.range-index, range, omega arith, sym c.range-item.is, (omega arith, some)))
    ]

pub returns-clause-members : goal.returns-clause-members
returns-clause-members g c =
    let number = g.T.Number.number in
    gathered_whole (λ r. number r.first) (λ r. number r.last) g.T.Number.family c.args.ranges.now
    c.loop-range.range-index (map number c.loop-range.boundaries.items) (omega arith) c.loop-range.invariant
