use Rattle.std.proofs.Common.{◌≡◌, Some, sym, ap, ◌∙◌, subst, rules}
use Rattle.ipnet.specs.Numerals.{IsDecimal}
use Rattle.ipnet.specs.declared.parser.Grammar.TheVariants.{Strict}
use Rattle.ipnet_lists.specs.Words.{leading_word, after_word}
use Rattle.netset_lib.proofs.prefix_line.read_bound.Goals as goal

pub returns-in_err-number-clause-none : goal.returns-in_err-number-clause-none
returns-in_err-number-clause-none c = λ none n rest h.
    let word : c.cut_word-2.result.0.now ≡ leading_word (after_word c.args.text.now) =
    c.cut_word-2.ensures.word ∙ ap leading_word c.cut_word.ensures.rest in
    let found : c.read_number.result ≡ Some n =
    (c.read_number.ensures n).1 (subst (λ z. IsDecimal Strict 3 128 z n) (sym word) h.number) in
    let clash = c.in_err-number.was in
    absurd cc

pub returns-clause-some : goal.returns-clause-some
returns-clause-some c =
    let same : c.cut_word.result.0.now ≡ c.args.keyword.now = search rules in
    let word : c.cut_word-2.result.0.now ≡ leading_word (after_word c.args.text.now) =
    c.cut_word-2.ensures.word ∙ ap leading_word c.cut_word.ensures.rest in
    record {
      word = sym c.cut_word.ensures.word ∙ same;
      number = subst (λ z. IsDecimal Strict 3 128 z c.in_ok-number.number) word
          ((c.read_number.ensures c.in_ok-number.number).0 c.in_ok-number.was);
      after = c.cut_word-2.ensures.rest ∙ ap after_word c.cut_word.ensures.rest;
    }
