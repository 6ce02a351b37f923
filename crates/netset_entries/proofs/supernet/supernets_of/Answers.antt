use Rattle.std.proofs.Common.{◌++◌, ap, map, ◌∙◌}
use Rattle.ipnet.specs.NetworkOf.{ip_network}
use Rattle.netset_entries.specs.Supernets.{found_network}
use Rattle.netset_entries.proofs.supernet.supernets_of.Goals as goal

pub returns : goal.returns
returns c =
    let first = found_network c.ipv4_supernet.result in
    let second = found_network c.ipv6_supernet.result in record {
      ipv4 = first;
      ipv6 = second;
      of_ipv4 = c.ipv4_supernet.ensures;
      of_ipv6 = c.ipv6_supernet.ensures;
      both = c.in_ok-push_found-2.ensures
          ∙ ap (λ z. z ++ second) (c.in_ok-push_found.ensures
          ∙ ap (λ z. map ip_network z ++ first) c.new-networks.ensures.items);
    }
