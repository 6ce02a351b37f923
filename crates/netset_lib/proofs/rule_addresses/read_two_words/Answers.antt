-- The text is neither.
use Rattle.std.proofs.Common.{refl, sym, subst, inl, inr, ◌∙◌}
use Rattle.ipnet_lists.specs.Entries.{IsAddressText}
use Rattle.ipnet_lists.specs.Words.{leading_word}
use Rattle.netset_lib.specs.RuleAddresses.{WriteWildcard}
use Rattle.netset_lib.proofs.rule_addresses.read_two_words.Goals as goal

pub returns-in-None-clause-none : goal.returns-in-None-clause-none
returns-in-None-clause-none c = λ none range two.
    let grammar = c.args.grammar in
    let text = c.args.text.now in
    let word = c.cut_word.ensures.word in
    let rest = c.cut_word.ensures.rest in
    elim two [
      | inl host ↦ c.in_default.ensures.none refl host.address.address (word ∙ host.word)
          (subst (λ z. IsAddressText grammar z host.address.address) (sym rest) host.address.writes)
      | inr wildcard ↦ c.in-None.ensures.none refl wildcard.network
          (subst (λ z. WriteWildcard grammar z c.cut_word.result.1.now wildcard.network) (sym word)
          (subst (λ z. WriteWildcard grammar (leading_word text) z wildcard.network) (sym rest) wildcard.writes))
    ]
