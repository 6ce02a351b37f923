use Rattle.std.proofs.Common.{sym, subst, arith, inr}
use Rattle.std.proofs.lemmas.Result.{IfOk-weaker}
use Rattle.ipnet_fewest.specs.Solved.{AreValuesOfBoth}
use Rattle.ipnet_fewest.proofs.values.values_of_both.Goals as goal

pub returns : goal.returns
returns c =
    IfOk-weaker c.of.result _ _
    (λ values e. subst (AreValuesOfBoth c.args.first.now c.args.second.now) (sym e) (inr (record {
      first_some = λ e. omega (arith, e, c.if-first-eq0.false);
      second_some = λ e. omega (arith, e, c.if-second-eq0.false);
      sorted = c.in_ok-all_values.ensures.sorted;
      members = c.in_ok-all_values.ensures.members;
    }))) c.of.ensures
