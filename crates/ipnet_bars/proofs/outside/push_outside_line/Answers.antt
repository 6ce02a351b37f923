use Rattle.std.proofs.Common.{◌∷◌, [], codes, decimal, string_bytes}
use Rattle.ipnet_bars.specs.Parts.{counted}
use Rattle.ipnet_bars.proofs.BarLaws.{six_joined}
use Rattle.ipnet_bars.proofs.outside.push_outside_line.Goals as goal

pub returns : goal.returns
returns c =
    six_joined (string_bytes c.args.text.now) (string_bytes c.push_str.new.self) (string_bytes c.push_str-2.new.self)
    (string_bytes c.write.new.self) (string_bytes c.push_str-3.new.self) (string_bytes c.push_count.new.text)
    (string_bytes c.push_str-4.new.self) c.args.sign.now (codes "outside: IPv4 ") (decimal c.args.ipv4)
    (codes ", IPv6 ") (decimal (counted c.args.ipv6)) (10 ∷ []) c.in_ok-push_str.ensures.bytes
    c.in_ok-push_str-2.ensures.bytes c.in_ok-write.ensures.bytes c.in_ok-push_str-3.ensures.bytes
    c.in_ok-push_count.ensures c.in_ok-push_str-4.ensures.bytes
