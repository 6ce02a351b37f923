-- The cuts ascend, so the search finds the last one that is at most the number.
use Rattle.std.proofs.Common.{◌≡◌, ◌<◌, rules, of_calls, leb, arith}
use Rattle.std.proofs.lemmas.Bool.Decides.{nat_tests}
use Rattle.std.proofs.lemmas.Fn.{always_returns_same}
use Rattle.std.proofs.lemmas.List.Sorted.{IsPartitionedBy-leb}
use Rattle.ipnet_rules.proofs.CellLaws.{non_decreasing}
use Rattle.ipnet_rules.proofs.CompiledLaws.{cell_found, cell_missing}
use Rattle.ipnet_rules.proofs.compiled.cell_of.Goals as goal

pub returns-then-after-eq0-clause-none : goal.returns-then-after-eq0-clause-none
returns-then-after-eq0-clause-none c =
    let cuts = c.args.cuts.now in
    let n = c.args.number in
    let point = c.partition_point-after.ensures.partitioned (λ y. leb y n)
    (always_returns_same _ _ _ (λ a r f k. search (rules, of_calls)))
    (IsPartitionedBy-leb (λ k. k) cuts n (non_decreasing cuts c.requires)) in
    let zero : c.partition_point-after.result ≡ 0 = grind (arith, nat_tests, c.if-after-eq0.true) in
    λ none. cell_missing cuts n c.partition_point-after.result point zero

pub returns-clause-some : goal.returns-clause-some
returns-clause-some c =
    let cuts = c.args.cuts.now in
    let n = c.args.number in
    let point = c.partition_point-after.ensures.partitioned (λ y. leb y n)
    (always_returns_same _ _ _ (λ a r f k. search (rules, of_calls)))
    (IsPartitionedBy-leb (λ k. k) cuts n (non_decreasing cuts c.requires)) in
    let some : 0 < c.partition_point-after.result = grind (arith, nat_tests, c.if-after-eq0.false) in
    cell_found cuts n c.partition_point-after.result c.ranges.number.fits point c.partition_point-after.ensures.bound
    (λ e. omega (arith, e, some))
