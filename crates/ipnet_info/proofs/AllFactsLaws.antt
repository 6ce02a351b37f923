-- The facts about the networks before others are written.
use Rattle.std.proofs.Common.{◌≡◌, ◌++◌, ℕ, List, [], ◌∷◌, Bool, true, false, refl, sym, ap, subst, ◌∙◌}
use Rattle.std.proofs.Common.{append-nil, append_assoc}
use Rattle.ipnet_base.specs.Network.{Network}
use Rattle.ipnet_info.specs.declared.facts.FactsForm.{FactsForm}
use Rattle.ipnet_info.specs.Facts.{IsAppended, IsFactsText}
use Rattle.ipnet_info.specs.AllFacts.{AreAllFacts, gap}

-- with the facts of the other networks, the text has all facts
pub record WrittenBefore (form : FactsForm) (networks others : List Network) (is_first : Bool) (text : List ℕ) : Type
    0 where
  pub all : (more : List ℕ) → AreAllFacts form is_first others more → AreAllFacts form true networks (text ++ more)

pub written_start : (form : FactsForm) (networks : List Network) (text : List ℕ) → text ≡ []
    → WrittenBefore form networks networks true text
written_start form networks text none = record {
  all = λ more h. subst (λ z. AreAllFacts form true networks (z ++ more)) (sym none) h;
}

pub written_more : (form : FactsForm) (networks : List Network) (n : Network) (others : List Network)
    (is_first : Bool) (old mid new first : List ℕ) → WrittenBefore form networks (n ∷ others) is_first old
    → IsAppended old mid (gap form is_first) → IsAppended mid new first → IsFactsText form n first
    → WrittenBefore form networks others false new
written_more form networks n others is_first old mid new first h before here facts = record {
  all = λ more rest.
      let grown : old ++ (gap form is_first ++ first ++ more) ≡ new ++ more =
      sym (append_assoc old (gap form is_first ++ first) more)
      ∙ ap (λ z. z ++ more) (sym (append_assoc old (gap form is_first) first)
      ∙ ap (λ z. z ++ first) (sym before.is) ∙ sym here.is) in
      subst (AreAllFacts form true networks) grown
      (h.all (gap form is_first ++ first ++ more) (first, more, facts, rest, refl));
}

pub written_end : (form : FactsForm) (networks : List Network) (is_first : Bool) (text : List ℕ)
    → WrittenBefore form networks [] is_first text → AreAllFacts form true networks text
written_end form networks is_first text h =
    subst (AreAllFacts form true networks) (append-nil text) (h.all [] refl)
