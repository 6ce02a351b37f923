-- The bounds of a line of a prefix list, and the verdicts on a list of networks.
use Rattle.std.proofs.Common.{◌≡◌, ◌≢◌, ◌↔◌, ◌⊎◌, ℕ, List, [], ◌∷◌, ◌++◌, Option, Some, None, Result, Ok}
use Rattle.std.proofs.Common.{Err}
use Rattle.std.proofs.Common.{IfOk, IfErr, Bool, IsTrue, refl, sym, ap, ◌∙◌, subst, inl}
use Rattle.std.proofs.Common.{inr}
use Rattle.std.proofs.Common.{append_assoc, append-nil, codes, ◌<◌, arith}
use Rattle.std.specs.Str.{IsUtf8}
use Rattle.std.proofs.lemmas.Bool.{cases_lt}
use Rattle.std.proofs.lemmas.List.Elements.{All-weaker}
use Rattle.std.proofs.lemmas.Str.Ascii.{IsAscii-from_all}
use Rattle.std.proofs.lemmas.Str.{IsUtf8-from_ascii}
use Rattle.ipnet_base.specs.Address.{width}
use Rattle.ipnet_base.specs.Network.{Network}
use Rattle.ipnet.specs.Numerals.{IsDecimal}
use Rattle.ipnet.specs.declared.parser.Grammar.TheVariants.{Strict}
use Rattle.ipnet.specs.NetworkOf.{ip_network}
use Rattle.ipnet.specs.declared.parser.Grammar.{Grammar}
use Rattle.ipnet_rules.specs.declared.rules.Action.{Action}
use Rattle.ipnet_rules.specs.declared.rules.Action.TheVariants.{Deny}
use Rattle.ipnet_rules.specs.declared.prefix_list.PrefixRule.{PrefixRule}
use Rattle.ipnet_rules.specs.PrefixLists.{IsBound, MatchesRoute, IsRouteVerdict}
use Rattle.ipnet_rules.proofs.VerdictLaws.{any_push, one_verdict}
use Rattle.netset_lib.specs.declared.prefix_line.PrefixCause.{PrefixCause}
use Rattle.netset_lib.specs.declared.prefix_line.PrefixCause.TheVariants as Causes
use Rattle.ipnet_lists.proofs.AddressBytes.{IsAddressByte, decimal_bytes}
use Rattle.netset_lib.specs.NetworkEntries.{IsNetworkWord}
use Rattle.netset_lib.specs.PrefixAnswers.{ListNetwork, verdict_line, AreVerdicts, IsOneDenied}
use Rattle.netset_lib.specs.PrefixLines.{IsBoundsText, IsPrefixText, IsPrefixCause, network_word}
use Rattle.netset_lib.specs.PrefixLines.{bounds_text}
use Rattle.netset_lib.specs.declared.prefix_answer.Verdicts.{Verdicts}
use Rattle.netset_lib.specs.PrefixReading.{AddsVerdict, AreVerdictsOn}
use Rattle.netset_lib.specs.PrefixSteps.{HasPair, IsRuleOf, IsBoundsCause}
use Rattle.netset_lib.specs.RuleLines.{word_of, HasRuleWord}
use Rattle.ipnet_lists.specs.Words.{leading_word, after_word}

-- ---- numbers

pub decimal_utf8 : (most greatest : ℕ) (text : List ℕ) (n : ℕ) → IsDecimal Strict most greatest text n → IsUtf8 text
decimal_utf8 most greatest text n h =
    IsUtf8-from_ascii text
    (IsAscii-from_all text
    (All-weaker IsAddressByte (λ b. b < 128) (λ b is. is.ascii) text (decimal_bytes text h.digits.1)))

-- a bound is accepted or not
pub bound_or_not : (k : Network) (b : Option ℕ) → IsBound k b ⊎ ¬ (IsBound k b)
bound_or_not k None = inl tt
bound_or_not k (Some b) = elim (cases_lt k.prefix_len b) [
  | inr low ↦ inr (λ h. omega (arith, low, h.0))
  | inl above ↦ elim (cases_lt (width k.family) b) [
    | inl long ↦ inr (λ h. omega (arith, long, h.1))
    | inr fits ↦ inl (above, fits)
  ]
]

-- ---- bounds

-- a text that is neither pair of bounds, nor empty, is not bounds
pub no_bounds : (text : List ℕ) → text ≢ [] → ((a : ℕ) (b : Option ℕ) → ¬ (HasPair (codes "ge") (codes "le") text a b))
    → ((a : ℕ) (b : Option ℕ) → ¬ (HasPair (codes "le") (codes "ge") text a b)) → (ge le : Option ℕ)
    → ¬ (IsBoundsText text ge le)
no_bounds text some first second None None h = some h
no_bounds text some first second (Some ge) None h = first ge None h
no_bounds text some first second None (Some le) h = second le None h
no_bounds text some first second (Some ge) (Some le) (rest, inl h) = first ge (Some le) (rest, h.0, h.1)
no_bounds text some first second (Some ge) (Some le) (rest, inr h) = second le (Some ge) (rest, h.0, h.1)

-- ---- lines

module _ (grammar : Grammar) (text word after entry bounds : List ℕ) (action : Action) (k : Network)
    (first : word ≡ leading_word text) (rest : after ≡ after_word text) (second : entry ≡ leading_word after)
    (last : bounds ≡ after_word after) (has : word ≡ word_of action) where
  entry_is : entry ≡ network_word text
  entry_is = second ∙ ap leading_word rest

  bounds_is : bounds ≡ bounds_text text
  bounds_is = last ∙ ap after_word rest

  pub has_word : HasRuleWord text
  has_word = (action, sym first ∙ has)

  pub line_rule : (r : Result PrefixRule PrefixCause) → IfOk r (IsRuleOf action k bounds)
      → IsNetworkWord grammar entry k → IfOk r (IsPrefixText grammar text)
  line_rule (Ok rule) h writes = record {
    word = sym first ∙ has ∙ ap word_of (sym h.of_action);
    network = subst (λ z. IsNetworkWord grammar z (ip_network rule.network)) entry_is
        (subst (IsNetworkWord grammar entry) (sym h.of_network) writes);
    bounds = subst (λ z. IsBoundsText z rule.ge rule.le) bounds_is h.bounds;
    ge_fits = subst (λ n. IsBound n rule.ge) (sym h.of_network) h.ge_fits;
    le_fits = subst (λ n. IsBound n rule.le) (sym h.of_network) h.le_fits;
    ordered = h.ordered;
  }
  line_rule (Err cause) h writes = tt

  pub line_cause : (r : Result PrefixRule PrefixCause) → IfErr r (IsBoundsCause k bounds)
      → IsNetworkWord grammar entry k → IfErr r (IsPrefixCause grammar text)
  line_cause (Ok rule) h writes = tt
  line_cause (Err Causes.UnknownWord) h writes = absurd h
  line_cause (Err (Causes.NoNetwork cause)) h writes = absurd h
  line_cause (Err Causes.NoName) h writes = absurd h
  line_cause (Err Causes.NoNumber) h writes = absurd h
  line_cause (Err Causes.OtherFamily) h writes = absurd h
  line_cause (Err Causes.BadBounds) h writes = (
    has_word,
    (k, subst (λ z. IsNetworkWord grammar z k) entry_is writes),
    subst (λ z. (ge le : Option ℕ) → ¬ (IsBoundsText z ge le)) bounds_is h,
  )
  line_cause (Err (Causes.RefusedBounds error)) (ge, le, writes_bounds, refused) writes = (
    has_word,
    record {
      network = k;
      ge = ge;
      le = le;
      writes_network = subst (λ z. IsNetworkWord grammar z k) entry_is writes;
      writes_bounds = subst (λ z. IsBoundsText z ge le) bounds_is writes_bounds;
      refused = refused;
    },
  )

-- ---- verdicts

verdicts_last : (rules : List PrefixRule) (networks : List ListNetwork) (n : ListNetwork) (action : Action)
    (text new : List ℕ) → AreVerdicts rules networks text → IsRouteVerdict rules n.network action
    → new ≡ text ++ verdict_line action n → AreVerdicts rules (networks ++ n ∷ []) new
verdicts_last rules [] n action text new h verdict is =
    (action, [], verdict, is ∙ ap (λ t. t ++ verdict_line action n) h ∙ sym (append-nil (verdict_line action n)), refl)
verdicts_last rules (m ∷ networks) n action text new (a, rest, one, spelled, h) verdict is = (
  a,
  rest ++ verdict_line action n,
  one,
  is ∙ ap (λ t. t ++ verdict_line action n) spelled
      ∙ append_assoc (verdict_line a m) rest (verdict_line action n),
  verdicts_last rules networks n action rest (rest ++ verdict_line action n) h verdict refl,
)

-- a network more is denied
denied_last : (rules : List PrefixRule) (networks : List ListNetwork) (n : ListNetwork) (action : Action)
    (old new : Bool) → (IsTrue old ↔ IsOneDenied rules networks) → IsRouteVerdict rules n.network action
    → (IsTrue new ↔ (IsTrue old ⊎ (action ≡ Deny))) → IsTrue new ↔ IsOneDenied rules (networks ++ n ∷ [])
denied_last rules networks n action old new same verdict more =
    let push = any_push (λ m. IsRouteVerdict rules m.network Deny) networks n in (
      λ yes. elim (more.0 yes) [
        | inl before ↦ push.1 (inl (same.0 before))
        | inr deny ↦ push.1 (inr (subst (IsRouteVerdict rules n.network) deny verdict))
      ],
      λ one. elim (push.0 one) [
        | inl front ↦ more.1 (inl (same.1 front))
        | inr last ↦
            more.1 (inr (one_verdict MatchesRoute (λ r. r.action) Deny rules n.network action Deny verdict last))
      ],
    )

-- a verdict more is added
pub verdict_added : (rules : List PrefixRule) (n : ListNetwork) (old new : Verdicts) (networks : List ListNetwork)
    → AddsVerdict rules n old new → AreVerdictsOn rules old networks → AreVerdictsOn rules new (networks ++ n ∷ [])
verdict_added rules n old new networks adds h = record {
  text = verdicts_last rules networks n adds.action old.text.items new.text.items h.text adds.verdict adds.line;
  denied = denied_last rules networks n adds.action old.denied new.denied h.denied adds.verdict adds.denied;
}
