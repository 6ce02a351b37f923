-- The boundaries ascend, so those that are at most the number come first.
use Rattle.std.proofs.Common.{rules, of_calls, leb}
use Rattle.std.proofs.lemmas.Fn.{always_returns_same}
use Rattle.std.proofs.lemmas.List.Sorted.{IsPartitionedBy-leb}
use Rattle.ipnet_sets.proofs.SplitLaws.{words_rise, split_from_point}
use Rattle.ipnet_sets.proofs.boundaries.boundaries_up_to.Goals as goal

pub returns : goal.returns
returns g c =
    let number = g.T.Number.number in
    let words = c.args.boundaries.now in
    split_from_point number words c.args.number c.partition_point.result c.partition_point.ensures.bound
    (c.partition_point.ensures.partitioned (λ word. leb (number word) (number c.args.number))
    (always_returns_same _ _ _ (λ a r f k. search (rules, of_calls)))
    (IsPartitionedBy-leb number words (number c.args.number) (words_rise number words c.requires.ascending)))
