use Rattle.std.proofs.Common.{◌≡◌, ◌-◌, ◌*◌, ◌/◌, ◌^◌, ◌++◌, sym, ap, ◌∙◌, arith, append_assoc, append-nil}
use Rattle.std.proofs.Common.{string_bytes}
use Rattle.ipnet_info.specs.Digits.{hex_digits, separator, full_groups}
use Rattle.ipnet_info.proofs.DigitFacts.{piece_step, groups_step}
use Rattle.ipnet_info.proofs.numbers.written_out.Goals as goal

pub loop-rest-preserved : goal.loop-rest-preserved
loop-rest-preserved c =
    let rest = c.loop-rest.rest - 1 in
    let number = c.to_bits-number.result in
    let group = hex_digits 4 (number / 2 ^ (16 * rest)) in
    piece_step (string_bytes c.push_separator.new.text) (string_bytes c.loop-rest.text) (group ++ separator rest)
    (full_groups rest number) (full_groups 8 number)
    (c.in_ok-push_separator.ensures ∙ ap (λ z. z ++ separator rest) c.in_ok-push_digits.ensures
    ∙ append_assoc (string_bytes c.loop-rest.text) group (separator rest))
    (ap (λ z. string_bytes c.loop-rest.text ++ z) (sym (groups_step c.loop-rest.rest number (omega arith)))
    ∙ c.loop-rest.invariant)

pub returns : goal.returns
returns c =
    let none : 0 ≡ c.loop-rest.rest = omega arith in
    sym (append-nil (string_bytes c.loop-rest.text))
    ∙ ap (λ k. string_bytes c.loop-rest.text ++ full_groups k c.to_bits-number.result) none
    ∙ c.loop-rest.invariant
    ∙ ap (full_groups 8) c.to_bits-number.ensures
