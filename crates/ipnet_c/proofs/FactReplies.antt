-- Replies with the facts about a network, and with plans.
use Rattle.std.proofs.Common.{◌≡◌, ◌≢◌, ℕ, ◌<◌, ◌⊎◌, ◌==◌, false, List, Any, Ok, inl, inr, refl}
use Rattle.std.proofs.Common.{sym, ◌∙◌, subst}
use Rattle.ipnet_base.specs.Address.{Family, IPv4, IPv6, width}
use Rattle.ipnet.specs.declared.net.IpNet.{IpNet}
use Rattle.ipnet_sets.specs.Images.{IsImage}
use Rattle.ipnet_c.specs.Buffers.{IsWritten, IsTooLong}
use Rattle.ipnet_c.specs.FactReplies.{IsFormNumber, AreFactsOf, IsInfoReply}
use Rattle.ipnet_c.specs.FactReplies.{plan_family_number, IsFamilyNumber, HasLongLength}
use Rattle.ipnet_c.specs.FactReplies.{IsPlanOf, HasNoPlan, IsPlanReply}
use Rattle.ipnet_c.proofs.ListReplies.{TellsFaults}
use Rattle.ipnet_c.proofs.StatusLaws.{differ, not_other}

-- ---- facts

-- facts that are written if there is room
pub facts_listed : (number : ℕ) (bytes text old new : List ℕ) (count_old count status : ℕ) (net : IpNet)
    → IsFormNumber number → TellsFaults bytes (Ok net) → AreFactsOf number bytes text
    → (status ≡ 0) ⊎ (status ≡ 4) → (status ≡ 0 → IsWritten text old new count)
    → (status ≡ 4 → IsTooLong text old new count) → IsInfoReply number bytes old new count_old count status
facts_listed number bytes text old new count_old count status net form faults facts known ok short = record {
  known = elim known [ inl e ↦ inl e | inr e ↦ inr (inl e) ];
  ok = λ e. (text, facts, ok e);
  too_short = λ e. (text, facts, short e);
  unknown_option = (λ e. absurd (not_other status 17 known refl refl e), λ n. absurd (n form));
  wrong_length = (
    λ e. absurd (not_other status 6 known refl refl e),
    λ h. let clash = faults.length.1 h.1 in absurd cc,
  );
  unknown_family = (
    λ e. absurd (not_other status 7 known refl refl e),
    λ h. let clash = faults.variant.1 h.1 in absurd cc,
  );
  prefix_too_long = (
    λ e. absurd (not_other status 8 known refl refl e),
    λ h. let clash = faults.prefix.1 h.1 in absurd cc,
  );
  buffer_kept = λ not_ok. elim known [ inl e ↦ absurd (not_ok e) | inr e ↦ (short e).kept ];
  count_kept = λ not_ok not_short. elim known [ inl e ↦ absurd (not_ok e) | inr e ↦ absurd (not_short e) ];
}

-- ---- plans

-- no length is above the width of the family
fits_in : (number w : ℕ) (f other : Family) (lengths : List ℕ) → number ≡ plan_family_number f → w ≡ width f
    → ¬ (Any (λ p. w < p) lengths) → number ≡ plan_family_number other → ¬ (Any (λ p. width other < p) lengths)
fits_in number w IPv4 IPv4 lengths e is none same any = none (subst (λ z. Any (λ p. z < p) lengths) (sym is) any)
fits_in number w IPv6 IPv6 lengths e is none same any = none (subst (λ z. Any (λ p. z < p) lengths) (sym is) any)
fits_in number w IPv4 IPv6 lengths e is none same any = differ 4 6 refl (sym e ∙ same)
fits_in number w IPv6 IPv4 lengths e is none same any = differ 6 4 refl (sym e ∙ same)

pub lengths_fit : (number w : ℕ) (f : Family) (lengths : List ℕ) → number ≡ plan_family_number f → w ≡ width f
    → ¬ (Any (λ p. w < p) lengths) → ¬ (HasLongLength number lengths)
lengths_fit number w f lengths e is none long = fits_in number w f long.0 lengths e is none long.1 long.2

-- a plan that is written if there is room
pub planned : (set : List ℕ) (number : ℕ) (lengths text old new : List ℕ) (count_old count status : ℕ)
    → IsFamilyNumber number → ¬ (HasLongLength number lengths) → IsImage set → IsPlanOf set number lengths text
    → (status ≡ 0) ⊎ (status ≡ 4) → (status ≡ 0 → IsWritten text old new count)
    → (status ≡ 4 → IsTooLong text old new count) → IsPlanReply set number lengths old new count_old count status
planned set number lengths text old new count_old count status family fits is plan known ok short = record {
  known = elim known [ inl e ↦ inl e | inr e ↦ inr (inl e) ];
  ok = λ e. (text, plan, ok e);
  too_short = λ e. (text, plan, short e);
  unknown_family = (λ e. absurd (not_other status 7 known refl refl e), λ n. absurd (n family));
  prefix_too_long = (λ e. absurd (not_other status 8 known refl refl e), λ h. absurd (fits h));
  not_a_set = (λ e. absurd (not_other status 11 known refl refl e), λ h. absurd (h.2 is));
  no_place = λ e. absurd (not_other status 19 known refl refl e);
  buffer_kept = λ not_ok. elim known [ inl e ↦ absurd (not_ok e) | inr e ↦ (short e).kept ];
  count_kept = λ not_ok not_short. elim known [ inl e ↦ absurd (not_ok e) | inr e ↦ absurd (not_short e) ];
}

-- the status without a plan differs from the others
without_plan : (status k : ℕ) → (status ≡ 19) ⊎ (status ≡ 3) → (19 == k) ≡ false → (3 == k) ≡ false → status ≢ k
without_plan status k (inl e) a b same = differ 19 k a (sym e ∙ same)
without_plan status k (inr e) a b same = differ 3 k b (sym e ∙ same)

-- no plan
pub not_planned : (set : List ℕ) (number : ℕ) (lengths buffer : List ℕ) (count status : ℕ) → IsFamilyNumber number
    → ¬ (HasLongLength number lengths) → IsImage set → (status ≡ 19) ⊎ (status ≡ 3)
    → (status ≡ 19 → HasNoPlan set number lengths) → IsPlanReply set number lengths buffer buffer count count status
not_planned set number lengths buffer count status family fits is known none = record {
  known = inr (inr (inr (inr (inr known))));
  ok = λ e. absurd (without_plan status 0 known refl refl e);
  too_short = λ e. absurd (without_plan status 4 known refl refl e);
  unknown_family = (λ e. absurd (without_plan status 7 known refl refl e), λ n. absurd (n family));
  prefix_too_long = (λ e. absurd (without_plan status 8 known refl refl e), λ h. absurd (fits h));
  not_a_set = (λ e. absurd (without_plan status 11 known refl refl e), λ h. absurd (h.2 is));
  no_place = none;
  buffer_kept = λ e. refl;
  count_kept = λ a b. refl;
}
