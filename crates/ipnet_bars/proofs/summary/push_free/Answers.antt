use Rattle.std.proofs.Common.{◌+◌, ◌++◌, ◌∷◌, [], ◌∙◌, codes, decimal, length, map, ap, sym, string_bytes}
use Rattle.std.proofs.lemmas.List.{length-map}
use Rattle.ipnet_base.specs.Network.{host_bits}
use Rattle.ipnet.specs.NetworkOf.{ip_network}
use Rattle.ipnet_bars.specs.Summaries.{lengths_text}
use Rattle.ipnet_bars.proofs.BarLaws.{four_joined}
use Rattle.ipnet_bars.proofs.summary.push_free.Goals as goal

pub returns : goal.returns
returns c =
    let n = ip_network c.args.network.now in
    let free = map ip_network c.args.free.now in
    four_joined (string_bytes c.args.text.now) (string_bytes c.push_str.new.self) (string_bytes c.push_number.new.text)
    (string_bytes c.push_lengths.new.text) (string_bytes c.push_str-2.new.self) (codes "free blocks: ")
    (decimal (length free)) (lengths_text free n.prefix_len (host_bits n + 1)) (10 ∷ []) c.in_ok-push_str.ensures.bytes
    (c.in_ok-push_number.ensures
    ∙ ap (λ z. string_bytes c.push_str.new.self ++ decimal z) (sym (length-map c.args.free.now ip_network)))
    c.in_ok-push_lengths.ensures c.in_ok-push_str-2.ensures.bytes
