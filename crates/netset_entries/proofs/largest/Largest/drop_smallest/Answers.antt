use Rattle.std.proofs.Common.{◌-◌, refl, sym, ◌∙◌, arith}
use Rattle.netset_entries.proofs.NoteLaws.{up_to_start, up_to_next, up_to_drop, up_to_none}
use Rattle.netset_entries.proofs.largest.Largest.drop_smallest.Goals as goal

pub loop-len-init : goal.loop-len-init
loop-len-init c = up_to_start _ c.args.self.now (omega arith)

pub loop-len-preserved : goal.loop-len-preserved
loop-len-preserved c =
    up_to_next c.args.self.now c.loop-len.self _ (c.loop-len.len - 1) c.loop-len.len c.index_mut.result.now
    c.pop.new.self c.pop.result c.loop-len.invariant (omega arith) (omega arith) c.index_mut.ensures.value
    c.pop.ensures.items refl (sym c.is_some.ensures ∙ c.if-is_some.false)
    (λ some. c.pop.ensures.variant.1 (omega (arith, some, c.index_mut.result.now.ok.0))) refl

pub returns-then-is_some : goal.returns-then-is_some
returns-then-is_some c =
    up_to_drop c.args.self.now c.loop-len.self _ (c.loop-len.len - 1) c.loop-len.len c.index_mut.result.now
    c.pop.new.self c.pop.result c.loop-len.invariant (omega arith) (omega arith) c.index_mut.ensures.value
    c.pop.ensures.items refl (sym c.is_some.ensures ∙ c.if-is_some.true) (omega (arith, c.saturating_sub-self.ensures))
    refl

pub returns : goal.returns
returns c = up_to_none c.loop-len.len c.args.self.now c.loop-len.self c.loop-len.invariant (omega arith)
