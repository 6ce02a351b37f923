-- A network more in the list of its family covers as much as one more at the end of both lists.
use Rattle.std.proofs.Common.{◌++◌, ◌∷◌, [], List, map, sym, subst, OnOk}
use Rattle.ipnet.specs.Blocks.{HaveSameCover}
use Rattle.ipnet.specs.Network.{Network}
use Rattle.ipnet.specs.NetworkOf.{ipv4_network, ipv6_network, ip_network}
use Rattle.ipnet_text.specs.NetLists.{networks_of}
use Rattle.ipnet_text.proofs.ListsLaws.{OnOk_then, first_covers_more, second_covers_more, taken_covers_more}
use Rattle.ipnet_text.proofs.net_lists.NetListsNetworkSink.push.Goals as goal

pub returns-in-V4 : goal.returns-in-V4
returns-in-V4 c =
    let old = c.args.self.now in
    let made = c.push_joined.new.list in
    let both = networks_of (record { ipv4 = made; ipv6 = old.ipv6 }) in
    subst (λ n. OnOk c.push_joined.result ((networks : List Network) → HaveSameCover networks (networks_of old)
    → HaveSameCover (networks ++ ip_network n ∷ []) both)) (sym c.in-V4.is)
    (OnOk_then c.push_joined.result c.push_joined.ensures
    (λ more networks. taken_covers_more networks (networks_of old) both (ipv4_network c.in-V4.network)
    (first_covers_more (map ipv4_network old.ipv4.items) (map ipv4_network made.items)
    (map ipv6_network old.ipv6.items) (ipv4_network c.in-V4.network) more)))

pub returns-in-V6 : goal.returns-in-V6
returns-in-V6 c =
    let old = c.args.self.now in
    let made = c.push_joined-in-V6.new.list in
    let both = networks_of (record { ipv4 = old.ipv4; ipv6 = made }) in
    subst (λ n. OnOk c.push_joined-in-V6.result ((networks : List Network) → HaveSameCover networks (networks_of old)
    → HaveSameCover (networks ++ ip_network n ∷ []) both)) (sym c.in-V6.is)
    (OnOk_then c.push_joined-in-V6.result c.push_joined-in-V6.ensures
    (λ more networks. taken_covers_more networks (networks_of old) both (ipv6_network c.in-V6.network)
    (second_covers_more (map ipv4_network old.ipv4.items) (map ipv6_network old.ipv6.items)
    (map ipv6_network made.items) (ipv6_network c.in-V6.network) more)))
