use Rattle.std.proofs.Common.{sym, subst, inl, inr}
use Rattle.ipnet.specs.NetworkOf.{ip_network}
use Rattle.ipnet_rules.specs.PrefixLists.{IsBound, IsAbove}
use Rattle.netset_lib.specs.PrefixLines.{IsBoundsText}
use Rattle.netset_lib.proofs.PrefixLaws.{bound_or_not}
use Rattle.netset_lib.proofs.prefix_line.bounded_rule.Goals as goal

pub returns-in-Ok-clause-rule : goal.returns-in-Ok-clause-rule
returns-in-Ok-clause-rule c =
    let k = ip_network c.args.network in
    let ge = c.in-Some.bounds.ge in
    let le = c.in-Some.bounds.le in
    let made = c.in-Ok.ensures.made in
    let ge_fits : IsBound k ge = elim (bound_or_not k ge) [
      | inl h ↦ h
      | inr out ↦ let clash = c.in-Ok.ensures.ge_out_of_range.1 out in absurd cc
    ] in
    let le_fits : IsBound k le = elim (bound_or_not k le) [
      | inl h ↦ h
      | inr out ↦ let clash = c.in-Ok.ensures.le_out_of_range.1 (ge_fits, out) in absurd cc
    ] in
    record {
      of_action = made.of_action;
      of_network = made.of_network;
      bounds = subst (λ z. IsBoundsText c.args.text.now z c.in-Ok.rule.le) (sym made.of_ge)
          (subst (λ z. IsBoundsText c.args.text.now ge z) (sym made.of_le) c.in-Some.ensures.some);
      ge_fits = subst (IsBound k) (sym made.of_ge) ge_fits;
      le_fits = subst (IsBound k) (sym made.of_le) le_fits;
      ordered = λ above.
          let clash = c.in-Ok.ensures.ge_above_le.1
          (ge_fits, le_fits, subst (λ z. IsAbove z le) made.of_ge (subst (IsAbove c.in-Ok.rule.ge) made.of_le above)) in
          absurd cc;
    }
