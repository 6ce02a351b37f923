-- The word and the number after it.
use Rattle.std.proofs.Common.{◌≡◌, Some, sym, ap, ◌∙◌, subst, codes, rules}
use Rattle.ipnet.specs.Numerals.{IsDecimal}
use Rattle.ipnet.specs.declared.parser.Grammar.TheVariants.{Strict}
use Rattle.ipnet_lists.specs.Words.{leading_word, after_word}
use Rattle.netset_lib.proofs.prefix_entry.read_sequence.Goals as goal

pub returns-in_err-number-clause-none : goal.returns-in_err-number-clause-none
returns-in_err-number-clause-none c = λ none.
    let same : c.cut_word.result.0.now ≡ codes "seq" = search rules in
    let word : c.cut_word-2.result.0.now ≡ leading_word (after_word c.args.text.now) =
    c.cut_word-2.ensures.word ∙ ap leading_word c.cut_word.ensures.rest in (
      sym c.cut_word.ensures.word ∙ same,
      λ number h.
          let found : c.read_number.result ≡ Some number =
          (c.read_number.ensures number).1 (subst (λ z. IsDecimal Strict 10 4294967295 z number) (sym word) h) in
          let clash = c.in_err-number.was in
          absurd cc,
    )

pub returns-clause-some : goal.returns-clause-some
returns-clause-some c =
    let same : c.cut_word.result.0.now ≡ codes "seq" = search rules in
    let word : c.cut_word-2.result.0.now ≡ leading_word (after_word c.args.text.now) =
    c.cut_word-2.ensures.word ∙ ap leading_word c.cut_word.ensures.rest in (
      sym c.cut_word.ensures.word ∙ same,
      subst (λ z. IsDecimal Strict 10 4294967295 z c.in_ok-number.number) word
          ((c.read_number.ensures c.in_ok-number.number).0 c.in_ok-number.was),
      c.cut_word-2.ensures.rest ∙ ap after_word c.cut_word.ensures.rest,
    )
