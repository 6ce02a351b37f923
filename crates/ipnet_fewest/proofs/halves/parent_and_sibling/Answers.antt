-- The other half is the one that is not the network.
use Rattle.std.proofs.Common.{◌≡◌, ◌↔◌, IsTrue, sym, subst, ap, arith}
use Rattle.ipnet_base.specs.Address.{width}
use Rattle.ipnet_base.proofs.BlockLaws.{own, own_in}
use Rattle.ipnet_base.proofs.ResultLaws.{false_gives}
use Rattle.ipnet.specs.NetLaws.{ip_valid}
use Rattle.ipnet.specs.NetworkOf.{ip_network}
use Rattle.ipnet_fewest.proofs.AsideLaws.{other_half}
use Rattle.ipnet_fewest.proofs.halves.parent_and_sibling.Goals as goal

pub halves-first-requires-clause-shorter : goal.halves-first-requires-clause-shorter
halves-first-requires-clause-shorter c =
    let n = ip_network c.args.network.now in
    let s = c.in-Some.ensures.some in
    omega (
      arith,
      s.shorter,
      (ip_valid c.args.network.now).prefix_fits,
      ap width (s.contains (own n) (own_in n)).same_family,
    )

pub returns : goal.returns
returns c =
    let n = c.args.network.now in
    let l = c.halves-first.result.0 in
    let s = c.in-Some.ensures.some in
    other_half (ip_network n) (ip_network l) (ip_network c.halves-first.result.1) (ip_network c.in-Some.parent)
    (ip_valid n) c.requires.truncated s.contains s.shorter c.halves-first.ensures.halves
    (false_gives c.eq.result (subst (λ b. IsTrue b ↔ (ip_network l ≡ ip_network n)) (sym c.eq.ensures)
    (c.ip_nets_compare_by_network.ensures.compare l n).equality) c.if-eq.false)
