use Rattle.std.proofs.Common.{◌++◌, ◌∷◌, [], ◌∙◌, codes, decimal, ap, string_bytes}
use Rattle.ipnet.specs.CanonicalTexts.{canonical_text}
use Rattle.ipnet.specs.NetworkOf.{ip_network}
use Rattle.ipnet_bars.proofs.BarLaws.{four_joined}
use Rattle.ipnet_bars.proofs.bar.push_first_line.Goals as goal

pub returns : goal.returns
returns c =
    four_joined (string_bytes c.args.text.now) (string_bytes c.push_str.new.self) (string_bytes c.push_str-2.new.self)
    (string_bytes c.push_number.new.text) (string_bytes c.push_str-3.new.self)
    (canonical_text (ip_network c.args.network.now)) (codes ", a mark is one /") (decimal c.args.mark_len) (10 ∷ [])
    (c.in_ok-push_str.ensures.bytes
    ∙ ap (λ z. string_bytes c.args.text.now ++ z) (c.as_str.ensures.value ∙ c.to_text.ensures))
    c.in_ok-push_str-2.ensures.bytes
    (c.in_ok-push_number.ensures ∙ ap (λ z. string_bytes c.push_str-2.new.self ++ decimal z) c.from.ensures)
    c.in_ok-push_str-3.ensures.bytes
