use Rattle.std.proofs.Common.{inr, refl, subst}
use Rattle.ipnet_lists.specs.Causes.{IsFirstOf}
use Rattle.ipnet_lists.proofs.cause.cause_in_text.Goals as goal

pub returns-in-None : goal.returns-in-None
returns-in-None c =
    let text = c.args.text.now in
    inr (
      c.in-None.ensures.reads.none.0 refl,
      subst (λ list. IsFirstOf list text c.first_cause.result) c.all_causes.ensures c.first_cause.ensures,
    )
