-- The length of the network is in each mask from the first to the last.
use Rattle.std.proofs.Common.{◌≤◌, ◌/◌, get_or, sym, subst, arith}
use Rattle.ipnet_base.specs.Address.{ip_address}
use Rattle.ipnet.specs.NetworkOf.{ip_network}
use Rattle.ipnet_routes.specs.RouteLengths.{HasLength}
use Rattle.ipnet_routes.proofs.KnownLengthLaws.{known_long, known_here, known_more}
use Rattle.ipnet_routes.proofs.route_map.lengths.KnownLengths.add.Goals as goal

pub returns-then-len-ge128-clause-known : goal.returns-then-len-ge128-clause-known
returns-then-len-ge128-clause-known c =
    let s = c.args.self.now in
    known_long s.masks.items s.width (ip_network c.args.network.now)
    (omega (arith, c.if-len-ge128.true, c.prefix_len-len.ensures))

pub returns-clause-keeps : goal.returns-clause-keeps
returns-clause-keeps c =
    let s = c.args.self.now in
    known_more s.masks.items c.mark.new.masks.items s.width c.mark.ensures.size c.mark.ensures.keeps

pub returns-clause-known : goal.returns-clause-known
returns-clause-known c =
    let s = c.args.self.now in
    let k = ip_network c.args.network.now in
    known_here c.mark.new.masks.items s.width s.some k (ip_address c.network.result) (ip_address c.broadcast.result)
    c.network.ensures c.broadcast.ensures
    (λ i from to inside. subst (HasLength (get_or c.mark.new.masks.items i 0)) c.prefix_len-len.ensures
    (c.mark.ensures.has i (subst (λ z. z / s.width ≤ i) (sym c.region.ensures) from)
    (subst (λ z. i ≤ z / s.width) (sym c.region-2.ensures) to) inside))
