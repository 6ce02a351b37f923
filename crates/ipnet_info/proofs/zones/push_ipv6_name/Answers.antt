use Rattle.std.proofs.Common.{◌≡◌, ◌-◌, [], ◌∷◌, ◌++◌, codes, sym, ap, ◌∙◌, arith, append_assoc, string_bytes}
use Rattle.ipnet_info.specs.Digits.{hex_digit_at}
use Rattle.ipnet_info.specs.Zones.{ipv6_labels}
use Rattle.ipnet_info.proofs.DigitFacts.{piece_step, ipv6_step}
use Rattle.ipnet_info.proofs.zones.push_ipv6_name.Goals as goal

pub loop-index-preserved : goal.loop-index-preserved
loop-index-preserved c =
    let index = c.loop-index.index - 1 in
    let digit = hex_digit_at c.args.number (31 - index) ∷ [] in
    piece_step (string_bytes c.push_str.new.self) (string_bytes c.loop-index.text) (digit ++ codes ".")
    (ipv6_labels index c.args.number)
    (string_bytes c.args.text.now ++ ipv6_labels c.args.labels c.args.number)
    (c.in_ok-push_str.ensures.bytes ∙ ap (λ z. z ++ codes ".") c.in_ok-push_digit.ensures
    ∙ append_assoc (string_bytes c.loop-index.text) digit (codes "."))
    (ap (λ z. string_bytes c.loop-index.text ++ z) (sym (ipv6_step c.loop-index.index c.args.number (omega arith)))
    ∙ c.loop-index.invariant)

pub returns : goal.returns
returns c =
    let none : 0 ≡ c.loop-index.index = omega arith in
    c.in_ok-push_str-2.ensures.bytes
    ∙ ap (λ k. string_bytes c.loop-index.text ++ ipv6_labels k c.args.number) none
    ∙ c.loop-index.invariant
