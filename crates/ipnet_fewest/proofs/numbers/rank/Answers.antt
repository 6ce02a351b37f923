-- The values before `low` are less, and the values from `high` on are not. The two places meet.
use Rattle.std.proofs.Common.{◌+◌, ◌-◌, ◌/◌, sym, ◌∙◌, arith}
use Rattle.ipnet_fewest.proofs.RankLaws.{rank_up, rank_down, less_from_test, not_less_from_test}
use Rattle.ipnet_fewest.proofs.numbers.rank.Goals as goal

pub loop-low-preserved-then-is_lt : goal.loop-low-preserved-then-is_lt
loop-low-preserved-then-is_lt g c =
    let cmp = g.V.Ord.cmp in
    let low = c.loop-low.low in
    let high = c.loop-low.high in
    let v = c.index-values-middle.result in
    rank_up cmp g.met.V.Ord.total c.args.values.now c.requires c.args.value low high (low + (high - low) / 2) v
    (omega arith) (omega arith) (sym c.index-values-middle.is)
    (sym c.cmp.ensures ∙ less_from_test c.cmp.result (sym c.is_lt.ensures ∙ c.if-is_lt.true)) c.loop-low.invariant

pub loop-low-preserved : goal.loop-low-preserved
loop-low-preserved g c =
    let cmp = g.V.Ord.cmp in
    let low = c.loop-low.low in
    let high = c.loop-low.high in
    let v = c.index-values-middle.result in
    rank_down cmp g.met.V.Ord.total c.args.values.now c.requires c.args.value low high (low + (high - low) / 2) v
    (omega arith) (omega arith) (sym c.index-values-middle.is)
    (λ less. not_less_from_test c.cmp.result (sym c.is_lt.ensures ∙ c.if-is_lt.false) (c.cmp.ensures ∙ less))
    c.loop-low.invariant
