-- The first half is the other one if it does not contain the network, and else the last half is.
use Rattle.std.proofs.Common.{ap, ap₂, arith, ◌∙◌}
use Rattle.ipnet_base.specs.Address.{Address, width, ip_address}
use Rattle.ipnet_base.proofs.ResultLaws.{true_gives, false_gives}
use Rattle.ipnet_base.proofs.BlockLaws.{own, own_in}
use Rattle.ipnet.specs.NetLaws.{ip_valid}
use Rattle.ipnet.specs.NetworkOf.{ip_network}
use Rattle.ipnet_pools.proofs.SplitLaws.{first_truncated, first_is_half, last_is_half}
use Rattle.ipnet_pools.proofs.pieces.other_half.Goals as goal

pub new_assert-first-requires : goal.new_assert-first-requires
new_assert-first-requires c =
    let n = ip_network c.args.network.now in
    omega (
      arith,
      c.prefix_len.ensures,
      (ip_valid c.args.network.now).prefix_fits,
      ap width (c.requires.contains (own n) (own_in n)).same_family,
      ap (λ a. width a.family) c.addr.ensures,
    )

pub returns-then-contains-clause-halves : goal.returns-then-contains-clause-halves
returns-then-contains-clause-halves c =
    let s = ip_network c.args.supernet.now in
    let n = ip_network c.args.network.now in
    last_is_half s n (ip_valid c.args.network.now) c.requires (ip_network c.new_assert-first.result)
    (ip_network c.trunc.result) (ip_address c.broadcast.result)
    (c.new_assert-first.ensures
    ∙ ap₂ (λ (a : Address) p. record { family = a.family; number = a.number; prefix_len = p }) c.addr.ensures
    c.prefix_len.ensures)
    (true_gives c.contains.result c.contains.ensures c.if-contains.true) c.broadcast.ensures
    (ip_network c.new_assert-last.result)
    (c.new_assert-last.ensures
    ∙ ap (λ p. record {
      family = (ip_address c.broadcast.result).family;
      number = (ip_address c.broadcast.result).number;
      prefix_len = p;
    }) c.prefix_len-then-contains.ensures)
    c.trunc.ensures

pub returns-clause-truncated : goal.returns-clause-truncated
returns-clause-truncated c =
    first_truncated (ip_network c.args.supernet.now) (ip_network c.args.network.now) (ip_valid c.args.network.now)
    c.requires (ip_network c.new_assert-first.result)
    (c.new_assert-first.ensures
    ∙ ap₂ (λ (a : Address) p. record { family = a.family; number = a.number; prefix_len = p }) c.addr.ensures
    c.prefix_len.ensures)

pub returns-clause-halves : goal.returns-clause-halves
returns-clause-halves c =
    first_is_half (ip_network c.args.supernet.now) (ip_network c.args.network.now) (ip_valid c.args.network.now)
    c.requires (ip_network c.new_assert-first.result)
    (c.new_assert-first.ensures
    ∙ ap₂ (λ (a : Address) p. record { family = a.family; number = a.number; prefix_len = p }) c.addr.ensures
    c.prefix_len.ensures)
    (false_gives c.contains.result c.contains.ensures c.if-contains.false)
