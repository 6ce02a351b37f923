-- The numbers so far that both lists have.
use Rattle.std.proofs.Common.{◌+◌, get_or, sym, subst, arith}
use Rattle.ipnet_base.proofs.ListLaws.{at_place}
use Rattle.ipnet_base.proofs.ResultLaws.{true_gives, false_gives}
use Rattle.ipnet_fewest.proofs.NumberLaws.{AreCommonTo, common_start, common_same, common_more, common_end}
use Rattle.ipnet_fewest.proofs.values.values_in.Goals as goal
use Rattle.ipnet_fewest.proofs.values.values_in.Goals.{then-has_value+in_ok-push, else-has_value}

pub loop-index-init : goal.loop-index-init
loop-index-init c = common_start c.args.first.now c.args.second.now c.new-common.result.items c.new-common.ensures.items

pub loop-index-preserved : goal.loop-index-preserved
loop-index-preserved c =
    let first = c.args.first.now in
    let second = c.args.second.now in
    let i = c.loop-index.index in
    let x = get_or first i 0 in
    let here = at_place first i x 0 (omega arith) in
    elim c.if-has_value.branch [
      | then-has_value+in_ok-push w ↦
          subst (λ z. AreCommonTo first second (i + 1) z.items) (sym w.common-is)
          (common_more first second i c.loop-index.common.items x (omega arith) here c.loop-index.invariant
          w.push.new.self.items w.in_ok-push.ensures.items c.requires.first
          (true_gives c.has_value.result c.has_value.ensures w.if-has_value.true))
      | else-has_value w ↦
          subst (λ z. AreCommonTo first second (i + 1) z.items) (sym w.common-is)
          (common_same first second i c.loop-index.common.items x (omega arith) here c.loop-index.invariant
          (false_gives c.has_value.result c.has_value.ensures w.if-has_value.false))
    ]

pub returns-clause-sorted : goal.returns-clause-sorted
returns-clause-sorted c = c.loop-index.invariant.sorted

pub returns-clause-members : goal.returns-clause-members
returns-clause-members c =
    common_end c.args.first.now c.args.second.now c.loop-index.index c.loop-index.common.items (omega arith)
    c.loop-index.invariant
