-- The search finds the spans that begin up to the end of the span.
use Rattle.std.proofs.Common.{rules, of_calls, leb}
use Rattle.std.proofs.lemmas.Fn.{always_returns_same}
use Rattle.std.proofs.lemmas.List.Sorted.{IsPartitionedBy-leb}
use Rattle.netset_entries.proofs.OverlapLaws.{met_found}
use Rattle.netset_entries.proofs.overlaps.met_by.Goals as goal

pub returns : goal.returns
returns c =
    let rest = c.args.rest.now in
    let last = c.args.span.now.last in
    met_found c.args.span.now rest c.partition_point-end.result
    (c.partition_point-end.ensures.partitioned (λ s. leb s.first last)
    (always_returns_same _ _ _ (λ a r f k. search (rules, of_calls)))
    (IsPartitionedBy-leb (λ s. s.first) rest last c.requires))
    c.partition_point-end.ensures.bound
