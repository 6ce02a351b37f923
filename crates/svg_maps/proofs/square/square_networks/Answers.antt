use Rattle.std.proofs.Common.{◌≡◌, ◌+◌, ◌∙◌, map, ap, ap₂, subst}
use Rattle.std.proofs.lemmas.Result.{IfOk-weaker}
use Rattle.ipnet.specs.NetworkOf.{ip_network}
use Rattle.ipnet.specs.NetworkParts.{AreSubnetsOfLength}
use Rattle.svg_maps.specs.Squares.{square_bits}
use Rattle.svg_maps.proofs.square.square_networks.Goals as goal

pub returns : goal.returns
returns c =
    let n = ip_network c.args.frame.now in
    let depth = c.args.depth in
    let wanted = n.prefix_len + square_bits n.prefix_len depth in
    let len = c.prefix_len.result + c.square_bits_of.result in
    let same : len ≡ wanted = ap₂ (λ a b. a + b) c.prefix_len.ensures
    (c.square_bits_of.ensures.bits ∙ ap (λ z. square_bits z depth) c.prefix_len-2.ensures) in
    IfOk-weaker c.subnets_of.result (λ list. AreSubnetsOfLength n len (map ip_network list.items))
    (λ list. AreSubnetsOfLength n wanted (map ip_network list.items))
    (λ list h. subst (λ z. AreSubnetsOfLength n z (map ip_network list.items)) same h) c.subnets_of.ensures
