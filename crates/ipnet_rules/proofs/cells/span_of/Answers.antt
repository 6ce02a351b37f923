-- The cuts ascend, so the two searches find the first cell of the piece and the cell after its last one.
use Rattle.std.proofs.Common.{rules, of_calls, ltb, leb}
use Rattle.std.proofs.lemmas.Fn.{always_returns_same}
use Rattle.std.proofs.lemmas.List.Sorted.{IsPartitionedBy-ltb, IsPartitionedBy-leb}
use Rattle.ipnet_rules.proofs.CellLaws.{non_decreasing, span_from_points}
use Rattle.ipnet_rules.proofs.cells.span_of.Goals as goal

pub returns : goal.returns
returns c = λ ascending.
    let cuts = c.args.cuts.now in
    let p = c.args.piece.now in
    let up = non_decreasing cuts ascending in
    span_from_points cuts p _
    (c.partition_point.ensures.partitioned (λ y. ltb y p.first)
    (always_returns_same _ _ _ (λ a r f k. search (rules, of_calls))) (IsPartitionedBy-ltb (λ n. n) cuts p.first up))
    (c.partition_point-2.ensures.partitioned (λ y. leb y p.last)
    (always_returns_same _ _ _ (λ a r f k. search (rules, of_calls))) (IsPartitionedBy-leb (λ n. n) cuts p.last up))
    c.partition_point-2.ensures.bound
