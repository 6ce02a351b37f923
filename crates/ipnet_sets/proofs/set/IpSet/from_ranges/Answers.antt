use Rattle.std.proofs.Common.{◌↔◌, map, Any, arith}
use Rattle.std.proofs.lemmas.Result.{IfOk-weaker}
use Rattle.ipnet_base.specs.Address.{Address}
use Rattle.ipnet_base.specs.RangeOf.{ip_range}
use Rattle.ipnet_sets.specs.SetRanges.{IsInRange}
use Rattle.ipnet_sets.specs.Members.{IsMember}
use Rattle.ipnet_sets.specs.Pushed.{IsPushed}
use Rattle.ipnet_sets.proofs.ManyLaws.{first_none, first_more, first_of_none, first_whole, both_ways}
use Rattle.ipnet_sets.proofs.set.IpSet.from_ranges.Goals as goal

pub loop-range-init : goal.loop-range-init
loop-range-init c =
    first_none IsInRange (map ip_range c.args.ranges.now) (IsPushed c.new-builder.result) c.new-builder.ensures

pub loop-range-preserved : goal.loop-range-preserved
loop-range-preserved c =
    first_more ip_range IsInRange c.args.ranges.now c.loop-range.range-index c.range-item.result
    (IsPushed c.loop-range.builder) (IsPushed c.push.new.self) (omega arith) c.range-item.is
    c.loop-range.invariant c.in_ok-push.ensures.added

pub returns-clause-empty : goal.returns-clause-empty
returns-clause-empty c = λ none.
    c.into_set.ensures.empty (first_of_none ip_range IsInRange c.args.ranges.now c.loop-range.range-index
    (IsPushed c.loop-range.builder) none c.loop-range.invariant)

pub returns-clause-members : goal.returns-clause-members
returns-clause-members c =
    let builder = c.loop-range.builder in
    IfOk-weaker c.into_set.result (λ s. (x : Address) → IsMember s x ↔ IsPushed builder x)
    (λ s. (x : Address) → IsMember s x ↔ Any (λ n. IsInRange n x) (map ip_range c.args.ranges.now))
    (λ s h x. both_ways (h x)
    (first_whole ip_range IsInRange c.args.ranges.now c.loop-range.range-index (IsPushed builder)
    (omega arith) c.loop-range.invariant x)) c.into_set.ensures.members
