-- The block's address with one bit more than the network, without host bits.
use Rattle.std.proofs.Common.{◌+◌, ap₂, ◌∙◌}
use Rattle.ipnet_base.specs.Address.{Address}
use Rattle.ipnet.specs.NetworkOf.{ip_network}
use Rattle.ipnet_shortest.proofs.HalfLaws.{half_of}
use Rattle.ipnet_shortest.proofs.halves.half_with.Goals as goal

pub returns : goal.returns
returns c =
    half_of (ip_network c.args.around.now) (ip_network c.args.block.now) (ip_network c.new_assert.result)
    (ip_network c.trunc.result) c.requires.within c.requires.longer
    (c.new_assert.ensures
    ∙ ap₂ (λ (a : Address) p. record { family = a.family; number = a.number; prefix_len = p + 1 }) c.addr.ensures
    c.prefix_len.ensures) c.trunc.ensures
