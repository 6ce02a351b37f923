use Rattle.std.proofs.Common.{◌≡◌, List, [], ◌∷◌, ◌++◌, ap, subst, sym, refl, ◌∙◌, inl, inr}
use Rattle.std.proofs.lemmas.Result.{IfOk-weaker}
use Rattle.ipnet_rules.specs.declared.rules.Action.TheVariants.{Permit, Deny}
use Rattle.ipnet_rules.specs.declared.rules.Addresses.TheVariants.{Set}
use Rattle.ipnet_rules.specs.declared.rules.Rule.{Rule}
use Rattle.ipnet_rules.specs.Rules.{HasRuleVerdict}
use Rattle.example_firewall.proofs.access_list.AccessList.new.Goals as goal

-- the first of the two rules matches what is denied, and the second what is allowed
pub returns : goal.returns
returns c =
    let allowed = c.in_ok-allowed.ensures.members in
    let denied = c.in_ok-denied.ensures.members in
    let first : Rule = record { action = Deny; addresses = Set c.in_ok-denied.denied } in
    let second : Rule = record { action = Permit; addresses = Set c.in_ok-allowed.allowed } in
    let both : c.push-2.new.self.items ≡ first ∷ second ∷ [] =
    c.in_ok-push-2.ensures.items ∙ ap (λ rs. rs ++ second ∷ []) (c.in_ok-push.ensures.items
    ∙ ap (λ rs. rs ++ first ∷ []) c.new-list.ensures.items) in
    IfOk-weaker c.from_rules.result _ _ (λ list h x. (
      λ is_let_in.
          elim (subst (λ rs. HasRuleVerdict rs Deny x Permit) both ((h x is_let_in.fits).0 is_let_in)) [
            | inl one ↦ absurd (let wrong = one.1 in cc)
            | inr rest ↦ elim rest.1 [
              | inl two ↦ record { allowed = (allowed x).0 two.0; undenied = λ covered. rest.0 ((denied x).1 covered) }
              | inr none ↦ absurd (let wrong = none.1 in cc)
            ]
          ],
      λ ok. let member = (allowed x).1 ok.allowed in
          (h x member.fits).1 (subst (λ rs. HasRuleVerdict rs Deny x Permit) (sym both)
          (inr (λ out. ok.undenied ((denied x).0 out), inl (member, refl)))),
    )) c.from_rules.ensures
