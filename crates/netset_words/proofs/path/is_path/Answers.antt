use Rattle.std.proofs.Common.{◌≡◌, ◌&&◌, ◌||◌, not, true, false, ap, sym, ◌∙◌}
use Rattle.std.specs.Char.{is_ascii_digit}
use Rattle.std.specs.List.{list_all, list_any}
use Rattle.netset_words.specs.Places.{before_letter, begins_with_digits, is_digit_or_slash}
use Rattle.netset_words.proofs.path.is_path.Goals as goal

pub returns-then-not-has_digit : goal.returns-then-not-has_digit
returns-then-not-has_digit c =
    let text = c.args.text.now in
    let none : list_any is_ascii_digit (before_letter text) ≡ false =
    ap (list_any is_ascii_digit) (sym c.before_letter-front.ensures) ∙ sym c.has_digit.ensures ∙ c.if-not-has_digit.true
    in
    sym (ap (λ t. not t || begins_with_digits text) none)

pub returns-then-has_letter : goal.returns-then-has_letter
returns-then-has_letter c =
    let text = c.args.text.now in
    let some : list_any is_ascii_digit (before_letter text) ≡ true =
    ap (list_any is_ascii_digit) (sym c.before_letter-front.ensures) ∙ sym c.has_digit.ensures
    ∙ c.if-not-has_digit.false in
    c.are_digits_or_slashes.ensures ∙ ap (list_all is_digit_or_slash) c.before_letter-front.ensures
    ∙ sym (ap (λ t. not t || begins_with_digits text) some
    ∙ ap (λ t. t && list_all is_digit_or_slash (before_letter text)) (sym c.has_letter.ensures ∙ c.if-has_letter.true))

pub returns-else-has_letter : goal.returns-else-has_letter
returns-else-has_letter c =
    let text = c.args.text.now in
    let some : list_any is_ascii_digit (before_letter text) ≡ true =
    ap (list_any is_ascii_digit) (sym c.before_letter-front.ensures) ∙ sym c.has_digit.ensures
    ∙ c.if-not-has_digit.false in
    c.if-has_letter.false
    ∙ sym (ap (λ t. not t || begins_with_digits text) some
    ∙ ap (λ t. t && list_all is_digit_or_slash (before_letter text)) (sym c.has_letter.ensures ∙ c.if-has_letter.false))
