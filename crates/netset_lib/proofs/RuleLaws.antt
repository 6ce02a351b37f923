-- Lists of rules that are read line by line, and the causes of refused lines.
use Rattle.std.proofs.Common.{◌≡◌, ℕ, List, [], ◌∷◌, ◌++◌, refl, sym, ap, ap₂, ◌∙◌, subst, inl, inr, codes}
use Rattle.std.proofs.lemmas.List.{map_push}
use Rattle.ipnet.specs.declared.parser.Grammar.{Grammar}
use Rattle.ipnet_rules.specs.declared.rules.Rule.{Rule}
use Rattle.ipnet_rules.specs.declared.rules.Action.{Action}
use Rattle.ipnet_rules.specs.Rules.{Matches}
use Rattle.netset_lib.specs.declared.rule_cause.RuleCause.{RuleCause}
use Rattle.netset_lib.specs.declared.rule_cause.RuleCause.TheVariants.{UnknownWord, NoEntry, TwoEntries, BadEntry}
use Rattle.netset_lib.specs.declared.rule_cause.RuleCause.TheVariants.{NoHost, Netmask, EitherMask, NoMask}
use Rattle.netset_lib.specs.declared.rule_list.RuleList.{RuleList}
use Rattle.ipnet_lists.specs.Causes.{IsNetmaskNumber, IsReportedCause}
use Rattle.ipnet_lists.specs.ContentLines.{ContentLine}
use Rattle.ipnet_lists.specs.Entries.{IsNoEntry}
use Rattle.ipnet_lists.specs.Words.{after_word, leading_word}
use Rattle.ipnet_lists.proofs.RefusalLaws.{none_refused}
use Rattle.netset_lib.specs.RuleContentsOf.{WasRuleListRead, contents_of}
use Rattle.netset_lib.specs.RuleLines.{RuleContents, contents_of_rules, IsRuleOfLine, IsRuleList}
use Rattle.netset_lib.specs.RuleLines.{IsNoRule, IsRuleCause, word_of}
use Rattle.netset_lib.specs.RuleAddresses.{NamesAddresses, NamesNone, IsHostText, HasSecondAddress, IsEitherMask}
use Rattle.netset_lib.specs.RuleAddresses.{AreTwoAddresses, IsOnlyNetmask}
use Rattle.netset_lib.specs.RuleSteps.{AddsRule, IsAddressesCause}

-- a line that is taken adds a rule
pub rule_added : (grammar : Grammar) (line : ContentLine) (old new : RuleContents) → AddsRule grammar line old new
    → (item : ContentLine × Rule) × IsRuleOfLine grammar line item
    × ((items : List (ContentLine × Rule)) → old ≡ contents_of_rules items
    → new ≡ contents_of_rules (items ++ item ∷ []))
rule_added grammar line old new adds = (
  (line, adds.rule),
  (refl, adds.is),
  λ items h. ap₂ (λ rules lines. record { rules = rules; lines = lines })
      (adds.rules ∙ ap (λ z. z.rules ++ adds.rule ∷ []) h ∙ sym (map_push (λ i. i.1) items (line, adds.rule)))
      (adds.lines ∙ ap (λ z. z.lines ++ line ∷ []) h ∙ sym (map_push (λ i. i.0) items (line, adds.rule))),
)

-- no line is refused
pub all_rules : (grammar : Grammar) (bytes : List ℕ) (list : RuleList) → WasRuleListRead grammar bytes list
    → list.refused.count ≡ 0 → IsRuleList grammar bytes (contents_of list) []
all_rules grammar bytes list h none =
    subst (IsRuleList grammar bytes (contents_of list)) (none_refused list.refused h.refusals h.kept none) h.read

-- no rule without addresses after the word
pub no_rule : (grammar : Grammar) (text rest : List ℕ) → rest ≡ after_word text → NamesNone grammar rest
    → IsNoRule grammar text
no_rule grammar text rest is none rule h =
    elim (subst (λ z. NamesAddresses grammar z (Matches rule)) (sym is) h.addresses) [
      | inl all ↦ none.0 all.0
      | inr some ↦ none.1 some.0 some.1
    ]

-- why the text after the word names no addresses
pub rule_cause : (grammar : Grammar) (text word rest : List ℕ) (action : Action) (cause : RuleCause)
    → word ≡ leading_word text → rest ≡ after_word text → word ≡ word_of action → NamesNone grammar rest
    → IsAddressesCause grammar rest cause → IsRuleCause grammar text cause
rule_cause grammar text word rest action UnknownWord first is has none h = absurd h
rule_cause grammar text word rest action NoEntry first is has none h = ((action, sym first ∙ has), sym is ∙ h)
rule_cause grammar text word rest action TwoEntries first is has none h = (
  (action, sym first ∙ has),
  λ e. h.0 (subst (λ z. leading_word z ≡ z) (sym is) e),
  λ e. h.1 (subst (λ z. leading_word z ≡ codes "host") (sym is) e),
  λ two. h.2 (subst (AreTwoAddresses grammar) (sym is) two),
)
rule_cause grammar text word rest action (BadEntry reported) first is has none h = (
  (action, sym first ∙ has),
  λ e. h.0 (is ∙ e),
  subst (λ z. leading_word z ≡ z) is h.1,
  λ e. h.2 (is ∙ e),
  subst (IsNoEntry grammar) is (λ range entry. none.1 range (inl entry)),
  subst (λ z. IsReportedCause grammar z reported) is h.3,
)
rule_cause grammar text word rest action NoHost first is has none h = (
  (action, sym first ∙ has),
  subst (λ z. leading_word z ≡ codes "host") is h,
  λ range host. none.1 range (inr (inl (subst (λ z. IsHostText grammar z range) (sym is) host))),
)
rule_cause grammar text word rest action Netmask first is has none h =
    ((action, sym first ∙ has), subst (λ z. HasSecondAddress grammar z IsOnlyNetmask) is h)
rule_cause grammar text word rest action EitherMask first is has none h =
    ((action, sym first ∙ has), subst (λ z. HasSecondAddress grammar z IsEitherMask) is h)
rule_cause grammar text word rest action NoMask first is has none h = (
  (action, sym first ∙ has),
  subst (λ z. HasSecondAddress grammar z (λ number. IsNetmaskNumber number → ⊥)) is h,
)
