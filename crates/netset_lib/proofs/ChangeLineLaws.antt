-- A line of a list of changes, by its sign and its network.
use Rattle.std.proofs.Common.{◌≡◌, ℕ, List, Result, Ok, Err, IfOk, IfErr, sym, ◌∙◌, subst}
use Rattle.ipnet_base.specs.Address.{IPv4}
use Rattle.ipnet_base.specs.Network.{Network}
use Rattle.ipnet.specs.declared.parser.Grammar.{Grammar}
use Rattle.netset_lib.specs.declared.change_line.ChangeCause.{ChangeCause}
use Rattle.netset_lib.specs.declared.change_line.ChangeCause.TheVariants as Causes
use Rattle.netset_lib.specs.declared.change_line.Sign.{Sign}
use Rattle.netset_lib.specs.declared.change_line.Sign.TheVariants.{Plus, Minus}
use Rattle.netset_lib.specs.declared.changes.Change.{Change}
use Rattle.netset_lib.specs.declared.network_entry.NetworkCause.{NetworkCause}
use Rattle.netset_lib.specs.ApplySteps.{signed, IsMisfit}
use Rattle.netset_lib.specs.ChangeLists.{sign_of, IsChangeText, Fits, IsFittingChange, IsChangeCause}
use Rattle.netset_lib.specs.ChangeSteps.{change_of}
use Rattle.netset_lib.specs.NetworkEntries.{IsNetworkWord, IsNoNetworkWord, IsNetworkCause}
use Rattle.ipnet_lists.specs.Words.{leading_word, after_word}

pub signed_text : (grammar : Grammar) (text word rest : List ℕ) (sign : Sign) (n : Network) → word ≡ leading_word text
    → rest ≡ after_word text → word ≡ sign_of (signed sign n) → IsNetworkWord grammar rest n
    → IsChangeText grammar text (signed sign n)
signed_text grammar text word rest Plus n first is has h =
    record { sign = sym first ∙ has; network = subst (λ z. IsNetworkWord grammar z n) is h }
signed_text grammar text word rest Minus n first is has h =
    record { sign = sym first ∙ has; network = subst (λ z. IsNetworkWord grammar z n) is h }

module _ (grammar : Grammar) (Has : Network → Type 0) (text : List ℕ) (sign : Sign) (n : Network) where
  pub change_of_line : (r : Result Change ChangeCause) → IfOk r (λ change. change_of change ≡ signed sign n)
      → IfOk r (λ change. Fits Has (change_of change)) → IsChangeText grammar text (signed sign n)
      → IfOk r (λ change. IsFittingChange grammar Has text (change_of change))
  change_of_line (Ok change) is fits h = (subst (IsChangeText grammar text) (sym is) h, fits)
  change_of_line (Err cause) is fits h = tt

pub cause_of_line : (grammar : Grammar) (Has : Network → Type 0) (text : List ℕ) (sign : Sign) (n : Network)
    (r : Result Change ChangeCause) → IfErr r (IsMisfit Has sign n) → IsChangeText grammar text (signed sign n)
    → IfErr r (IsChangeCause grammar Has text)
cause_of_line grammar Has text sign n (Ok change) misfit h = tt
cause_of_line grammar Has text Plus n (Err Causes.Present) misfit h = (n, h, misfit)
cause_of_line grammar Has text Minus n (Err Causes.Absent) misfit h = (n, h, misfit)
cause_of_line grammar Has text Plus n (Err Causes.Absent) misfit h = absurd misfit
cause_of_line grammar Has text Plus n (Err Causes.UnknownSign) misfit h = absurd misfit
cause_of_line grammar Has text Plus n (Err (Causes.NoNetwork cause)) misfit h = absurd misfit
cause_of_line grammar Has text Minus n (Err Causes.Present) misfit h = absurd misfit
cause_of_line grammar Has text Minus n (Err Causes.UnknownSign) misfit h = absurd misfit
cause_of_line grammar Has text Minus n (Err (Causes.NoNetwork cause)) misfit h = absurd misfit

pub no_network_line : (grammar : Grammar) (Has : Network → Type 0) (text word rest : List ℕ) (sign : Sign)
    (cause : NetworkCause) → word ≡ leading_word text → rest ≡ after_word text
    → ((n : Network) → word ≡ sign_of (signed sign n)) → IsNoNetworkWord grammar rest
    → IsNetworkCause grammar rest cause → IsChangeCause grammar Has text (Causes.NoNetwork cause)
no_network_line grammar Has text word rest sign cause first is has none reported =
    let any : Network = record { family = IPv4; number = 0; prefix_len = 0 } in (
      (signed sign any, sym first ∙ has any),
      subst (IsNoNetworkWord grammar) is none,
      subst (λ z. IsNetworkCause grammar z cause) is reported,
    )
