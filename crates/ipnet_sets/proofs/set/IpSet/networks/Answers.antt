-- A network that is to be pushed has an address of its own, so the set is not empty.
use Rattle.std.proofs.Common.{Contains, map, sym, subst}
use Rattle.std.proofs.lemmas.List.Elements.{Contains-append_right}
use Rattle.ipnet_base.proofs.BlockLaws.{own, own_in}
use Rattle.ipnet_base.proofs.ListLaws.{contains_here}
use Rattle.ipnet.specs.NetworkOf.{ip_network}
use Rattle.ipnet_sets.specs.NetworksLeft.{networks_left}
use Rattle.ipnet_sets.proofs.set.IpSet.networks.Goals as goal

pub returns-in_err-push-clause-empty : goal.returns-in_err-push-clause-empty
returns-in_err-push-clause-empty c none =
    let n = ip_network c.in-Some.network in
    let left = networks_left c.loop-network.network-iterator in
    let here : Contains left n = subst (λ z. Contains z n) (sym c.in-Some.ensures.steps)
    (contains_here n (networks_left c.next.new.self)) in
    let maximal = (c.loop-network.invariant.members n).0
    (Contains-append_right (map ip_network c.loop-network.networks.items) left n here) in
    absurd (none (own n) (maximal.inside.within (own n) (own_in n)))
