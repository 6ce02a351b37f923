use Rattle.std.proofs.Common.{◌++◌, ◌∙◌, ap, sym, string_bytes}
use Rattle.ipnet_bars.specs.Parts.{counted}
use Rattle.svg_maps.specs.Counts.{quantity_text}
use Rattle.svg_maps.proofs.GroupLaws.{all_ipv6_quantity}
use Rattle.svg_maps.proofs.count.push_quantity.Goals as goal

pub returns-in_ok-push_str-in-None : goal.returns-in_ok-push_str-in-None
returns-in_ok-push_str-in-None c =
    c.in_ok-push_str-in-None.ensures.bytes ∙ ap (λ z. string_bytes c.args.text.now ++ z) (sym all_ipv6_quantity)
    ∙ ap (λ z. string_bytes c.args.text.now ++ quantity_text (counted z)) (sym c.in-None.is)
