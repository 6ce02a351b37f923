-- Networks within limits: the fewest for a percentage, and why there are none.
use Rattle.std.proofs.Common.{◌≡◌, ℕ, ◌↔◌, List, map}
use Rattle.std.proofs.Common.{Result, Ok, Err, IfOk, Option, Some, None, IfSome, IfNone, IsNone}
use Rattle.std.proofs.Common.{refl, sym, ap, ◌∙◌, subst}
use Rattle.std.specs.Global.{Vec}
use Rattle.ipnet.specs.declared.net.IpNet.{IpNet}
use Rattle.ipnet.specs.NetworkOf.{ip_network}
use Rattle.ipnet_base.specs.Address.{Address}
use Rattle.ipnet_sets.specs.ManySets.{IsInSome}
use Rattle.ipnet_sets.specs.declared.set.IpSet.{IpSet}
use Rattle.ipnet_sets.specs.Members.{IsMember, IsCountOf}
use Rattle.ipnet_shortest.specs.Covers.{IsCoverAdding, IsFewestCover, HasCoverAdding}
use Rattle.ipnet_shortest.proofs.CountLaws.{one_count}
use Rattle.netset_lib.specs.Reports.{IsReportedAs, words_line}
use Rattle.netset_entries.specs.declared.fit.FitFailure.{FitFailure}
use Rattle.netset_entries.specs.declared.fit.FitFailure.TheVariants.{NoList, Memory}
use Rattle.netset_entries.specs.declared.fit.FitLimit.{FitLimit}
use Rattle.netset_entries.specs.declared.fit.FitLimit.TheVariants.{Spare}
use Rattle.netset_entries.specs.declared.fit_program.FitCommand.{FitCommand}
use Rattle.netset_entries.specs.FittedLists.{percent_of, IsFitted, HasFit, IsFitFailure, IsFitReason, IsFitReported}
use Rattle.netset_entries.specs.FittedLists.{IsFitReportBegun, fit_words, exit_of_fit}

-- ---- the fewest networks, for a percentage

module _ (S F : Address → Type 0) (limit : FitLimit) (percent count spare : ℕ) (of : limit ≡ Spare percent)
    (counted : IsCountOf S count) (is : spare ≡ percent_of percent count) where
  pub spare_some : {E : Type 0} (r : Result (Option (Vec IpNet)) E)
      → IfOk r (λ o. IfSome o (λ list. IsFewestCover spare S F (map ip_network list.items)))
      → IfOk r (λ o. IfSome o (λ list. IsFitted limit S F (map ip_network list.items)))
  spare_some (Ok (Some list)) h =
      subst (λ z. IsFitted z S F (map ip_network list.items)) (sym of)
      (count, counted, subst (λ z. IsFewestCover z S F (map ip_network list.items)) is h)
  spare_some (Ok None) h = h
  spare_some (Err e) h = h

  no_fit : ¬ (HasCoverAdding spare S F) → ¬ (HasFit (Spare percent) S F)
  no_fit none (n, other, (networks, added, h)) =
      none (
        networks,
        added,
        subst (λ z. IsCoverAdding z S F networks added)
            (ap (percent_of percent) (one_count S n count other counted) ∙ sym is) h,
      )

  pub spare_none : {E : Type 0} (r : Result (Option (Vec IpNet)) E)
      → IfOk r (λ o. IsNone o ↔ ¬ (HasCoverAdding spare S F)) → IfOk r (λ o. IfNone o (¬ (HasFit limit S F)))
  spare_none (Ok (Some list)) h = tt
  spare_none (Ok None) h = subst (λ z. ¬ (HasFit z S F)) (sym of) (no_fit (h.0 refl))
  spare_none (Err e) h = h

-- ---- why there are none

-- the reason for the union of the sets
pub reason_of : (c : FitCommand) (set : IpSet) (why : FitFailure)
    → ((x : Address) → IsMember set x ↔ IsInSome IsMember c.sets.items x)
    → IsFitFailure c.request (IsMember set) (IsMember c.never) why → IsFitReason c why
reason_of c set NoList all none = (set, all, none)
reason_of c set Memory all h = h

-- at status 1 a family has no networks within its limit, and this is reported
pub none_reported : (c : FitCommand) (why : FitFailure) (held held_after : Option (List ℕ)) (sure : Type 0)
    → IsFitReason c why → exit_of_fit why ≡ 1 → IsFitReportBegun why held held_after
    → (sure → IsFitReported why held held_after)
    → IsFitReason c NoList × IsReportedAs (words_line (fit_words NoList)) held held_after sure
none_reported c NoList held held_after sure is one begun whole = (is, (begun, whole))
none_reported c Memory held held_after sure is one begun whole = absurd (cc)
