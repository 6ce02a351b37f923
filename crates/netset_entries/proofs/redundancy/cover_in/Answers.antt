-- Both ends of the spans rise, so two searches find the spans.
use Rattle.std.proofs.Common.{rules, of_calls, ltb, leb}
use Rattle.std.proofs.lemmas.Fn.{always_returns_same}
use Rattle.std.proofs.lemmas.List.Sorted.{IsPartitionedBy-ltb, IsPartitionedBy-leb}
use Rattle.netset_entries.proofs.CoverLaws.{firsts_rise, lasts_rise, some_begun, one_reaches, more_reach}
use Rattle.netset_entries.proofs.redundancy.cover_in.Goals as goal

pub returns-then-ended-begun-clause-reach : goal.returns-then-ended-begun-clause-reach
returns-then-ended-begun-clause-reach c = λ ordered.
    let spans = c.args.spans.now in
    one_reaches spans c.args.first c.args.last _ _
    (c.partition_point-begun.ensures.partitioned (λ s. leb s.first c.args.first)
    (always_returns_same _ _ _ (λ a r f k. search (rules, of_calls)))
    (IsPartitionedBy-leb (λ s. s.first) spans c.args.first (firsts_rise spans c.requires.rises)))
    (c.partition_point-ended.ensures.partitioned (λ s. ltb s.last c.args.last)
    (always_returns_same _ _ _ (λ a r f k. search (rules, of_calls)))
    (IsPartitionedBy-ltb (λ s. s.last) spans c.args.last (lasts_rise spans c.requires.rises)))
    c.partition_point-begun.ensures.bound (c.requires.ends ordered).0 (c.requires.ends ordered).1
    c.if-ended-begun.true

pub returns-clause-reach : goal.returns-clause-reach
returns-clause-reach c = λ ordered.
    let spans = c.args.spans.now in
    more_reach spans c.args.first c.args.last _ _
    (c.partition_point-begun.ensures.partitioned (λ s. leb s.first c.args.first)
    (always_returns_same _ _ _ (λ a r f k. search (rules, of_calls)))
    (IsPartitionedBy-leb (λ s. s.first) spans c.args.first (firsts_rise spans c.requires.rises)))
    (c.partition_point-ended.ensures.partitioned (λ s. ltb s.last c.args.last)
    (always_returns_same _ _ _ (λ a r f k. search (rules, of_calls)))
    (IsPartitionedBy-ltb (λ s. s.last) spans c.args.last (lasts_rise spans c.requires.rises)))
    c.partition_point-begun.ensures.bound (c.requires.ends ordered).0 (c.requires.ends ordered).1
    c.if-ended-begun.false

pub overflow_sub-result-2 : goal.overflow_sub-result-2
overflow_sub-result-2 c =
    let spans = c.args.spans.now in
    let ordered = c.if-last-first.false in
    some_begun spans c.args.first c.args.last _ c.partition_point-ended.result
    (c.partition_point-begun.ensures.partitioned (λ s. leb s.first c.args.first)
    (always_returns_same _ _ _ (λ a r f k. search (rules, of_calls)))
    (IsPartitionedBy-leb (λ s. s.first) spans c.args.first (firsts_rise spans c.requires.rises)))
    (c.partition_point-ended.ensures.partitioned (λ s. ltb s.last c.args.last)
    (always_returns_same _ _ _ (λ a r f k. search (rules, of_calls)))
    (IsPartitionedBy-ltb (λ s. s.last) spans c.args.last (lasts_rise spans c.requires.rises)))
    c.partition_point-begun.ensures.bound (c.requires.ends ordered).0 (c.requires.ends ordered).1
