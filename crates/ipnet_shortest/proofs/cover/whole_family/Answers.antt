-- The network's address with no bit of a prefix, without host bits.
use Rattle.std.proofs.Common.{ap, ◌∙◌}
use Rattle.ipnet_base.specs.Address.{Address}
use Rattle.ipnet.specs.NetworkOf.{ip_network}
use Rattle.ipnet_shortest.proofs.HalfLaws.{whole_of}
use Rattle.ipnet_shortest.proofs.cover.whole_family.Goals as goal

pub returns : goal.returns
returns c =
    whole_of (ip_network c.args.network.now) (ip_network c.new_assert.result) (ip_network c.trunc.result)
    (c.new_assert.ensures
    ∙ ap (λ (a : Address). record { family = a.family; number = a.number; prefix_len = 0 }) c.addr.ensures)
    c.trunc.ensures
