use Rattle.std.proofs.Common.{◌≡◌, subst, codes, string_bytes}
use Rattle.ipnet_bars.specs.Parts.{counted}
use Rattle.svg_maps.specs.Counts.{quantity_text}
use Rattle.svg_maps.specs.Legends.{outside_line}
use Rattle.svg_maps.proofs.PageLaws.{five_in_a_row}
use Rattle.svg_maps.proofs.shown.outside_line.Goals as goal

pub returns : goal.returns
returns c =
    subst (λ n. string_bytes c.push_str-2.new.self ≡ outside_line n (counted c.args.ipv6)) c.from.ensures
    (five_in_a_row (codes "Not shown: ") (quantity_text c.from.result) (codes " of IPv4, ")
    (quantity_text (counted c.args.ipv6)) (codes " of IPv6.") (string_bytes c.in_ok-line.line)
    (string_bytes c.push_quantity.new.text) (string_bytes c.push_str.new.self)
    (string_bytes c.push_quantity-2.new.text) (string_bytes c.push_str-2.new.self) c.in_ok-line.ensures.ok
    c.in_ok-push_quantity.ensures c.in_ok-push_str.ensures.bytes c.in_ok-push_quantity-2.ensures
    c.in_ok-push_str-2.ensures.bytes)
