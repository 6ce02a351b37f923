-- Nothing is added if the range has no number, or if the set has all numbers from its last range on.
use Rattle.std.proofs.Common.{◌≡◌, ◌%◌, length, map, ap, ◌∙◌, arith}
use Rattle.std.proofs.lemmas.List.{length-map}
use Rattle.ipnet_base.proofs.ResultLaws.{true_gives}
use Rattle.ipnet_sets.proofs.JoinLaws.{joined_none, joined_open}
use Rattle.ipnet_sets.proofs.gather.join_range.Goals as goal
use Rattle.ipnet_sets.proofs.gather.join_range.Goals.{then-is_below-via-then-is_below}
use Rattle.ipnet_sets.proofs.gather.join_range.Goals.{then-is_below-via-else-is_below+then-len-eq1}

pub returns-then-is_below-clause-joined : goal.returns-then-is_below-clause-joined
returns-then-is_below-clause-joined g c =
    let number = g.T.Number.number in
    let old = map number c.args.boundaries.now.items in
    elim c.then-is_below.branch [
      | then-is_below-via-then-is_below w ↦
          joined_none g.T.Number.family old (number c.args.first) (number c.args.last) c.requires.boundaries
          c.requires.begins (true_gives c.is_below.result c.is_below.ensures w.if-is_below.true)
      | then-is_below-via-else-is_below+then-len-eq1 w ↦
          let size : length old ≡ w.len.result
          = omega (arith, length-map c.args.boundaries.now.items number, w.len.ensures) in
          joined_open g.T.Number.family old (number c.args.first) (number c.args.last) c.requires.boundaries
          c.requires.begins (ap (λ n. n % 2) size ∙ w.if-len-eq1.true)
    ]
