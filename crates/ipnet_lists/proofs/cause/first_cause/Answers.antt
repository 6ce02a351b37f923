use Rattle.std.proofs.Common.{inr, sym, subst}
use Rattle.std.proofs.lemmas.List.{drop_more}
use Rattle.ipnet_lists.specs.Causes.{IsFirstOf}
use Rattle.ipnet_lists.proofs.cause.first_cause.Goals as goal

-- a cause that does not explain the text is passed over
pub loop-index-preserved : goal.loop-index-preserved
loop-index-preserved c = λ reported h.
    c.loop-index.invariant reported
    (subst (λ z. IsFirstOf z c.args.text.now reported)
    (sym (drop_more c.args.causes.now c.loop-index.index _ c.loop-index-test.true))
    (inr (
      λ e.
          let is = c.explains.ensures.1 e in
          let not = c.if-explains.false in
          absurd cc,
      h,
    )))
