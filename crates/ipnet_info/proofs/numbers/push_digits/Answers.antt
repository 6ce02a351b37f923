use Rattle.std.proofs.Common.{◌≡◌, ◌-◌, ◌++◌, [], ◌∷◌, sym, ap, ◌∙◌, arith, string_bytes, append-nil}
use Rattle.ipnet_info.specs.Digits.{hex_digit_at, hex_digits}
use Rattle.ipnet_info.proofs.DigitFacts.{piece_step, digits_step}
use Rattle.ipnet_info.proofs.numbers.push_digits.Goals as goal

pub loop-place-preserved : goal.loop-place-preserved
loop-place-preserved c =
    let place = c.loop-place.place - 1 in
    piece_step (string_bytes c.push_digit.new.text) (string_bytes c.loop-place.text)
    (hex_digit_at c.args.number place ∷ []) (hex_digits place c.args.number)
    (string_bytes c.args.text.now ++ hex_digits c.args.count c.args.number) c.in_ok-push_digit.ensures
    (ap (λ z. string_bytes c.loop-place.text ++ z) (sym (digits_step c.loop-place.place c.args.number (omega arith)))
    ∙ c.loop-place.invariant)

pub returns : goal.returns
returns c =
    let none : 0 ≡ c.loop-place.place = omega arith in
    sym (append-nil (string_bytes c.loop-place.text))
    ∙ ap (λ k. string_bytes c.loop-place.text ++ hex_digits k c.args.number) none
    ∙ c.loop-place.invariant
