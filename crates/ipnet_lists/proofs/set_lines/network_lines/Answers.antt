use Rattle.std.proofs.Common.{sym, subst, string_bytes}
use Rattle.ipnet.specs.NetworkOf.{ip_network}
use Rattle.ipnet_sets.specs.Members.{IsMember}
use Rattle.ipnet_sets.specs.NetworksLeft.{networks_left}
use Rattle.ipnet_lists.proofs.SetLineLaws.{AreNetworksWritten, no_network_written, one_network_written}
use Rattle.ipnet_lists.proofs.SetLineLaws.{all_networks_written}
use Rattle.ipnet_lists.proofs.set_lines.network_lines.Goals as goal

pub loop-network-init : goal.loop-network-init
loop-network-init c =
    subst (λ it. AreNetworksWritten (IsMember c.args.set.now) (string_bytes c.new-text.result) (networks_left it))
    (sym c.into_iter-network-iterator.ensures.into_iter_gives)
    (no_network_written (IsMember c.args.set.now) (networks_left c.iter_networks-network-items.result)
    c.iter_networks-network-items.ensures (string_bytes c.new-text.result) c.new-text.ensures.bytes)

pub loop-network-preserved : goal.loop-network-preserved
loop-network-preserved c =
    one_network_written (IsMember c.args.set.now) (string_bytes c.loop-network.text) (string_bytes c.push_line.new.text)
    (networks_left c.loop-network.network-iterator) (networks_left c.next.new.self) (ip_network c.in-Some.network)
    c.in-Some.ensures.steps c.in_ok-push_line.ensures c.loop-network.invariant

pub returns : goal.returns
returns c =
    all_networks_written (IsMember c.args.set.now) (string_bytes c.loop-network.text)
    (networks_left c.loop-network.network-iterator) c.in-None.ensures.steps.0 c.loop-network.invariant
