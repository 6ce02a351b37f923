-- The aggregates of the two families, one after the other, are the aggregate of both. An empty list has no network of
-- either family, and an aggregate is no longer than its list.
use Rattle.std.proofs.Common.{◌≡◌, ◌≤◌, [], List, length, map, arith}
use Rattle.std.proofs.lemmas.List.{length-map, nil_from_length}
use Rattle.ipnet.specs.Network.{Network}
use Rattle.ipnet.specs.NetworkOf.{ipv4_network, ipv6_network}
use Rattle.ipnet_text.proofs.ListsLaws.{both_families, no_ipv4, no_ipv6}
use Rattle.ipnet_text.proofs.net_lists.NetLists.aggregate.Goals as goal

-- the aggregate of an empty list is empty
none_of_none : {X : Type 0} (net : X → Network) (new old : List X) → length (map net new) ≤ length (map net old)
    → old ≡ [] → new ≡ []
none_of_none net new old shorter none =
    let size : length old ≡ 0 = rw none in
    nil_from_length new (omega (arith, shorter, size, length-map new net, length-map old net))

pub returns-clause-empty : goal.returns-clause-empty
returns-clause-empty c = λ h.
    let families = c.args.self.now in
    let ipv4 = none_of_none ipv4_network c.aggregate_in_place.new.networks.items families.ipv4.items
    c.aggregate_in_place.ensures.no_longer (no_ipv4 families.ipv4.items families.ipv6.items h) in
    let ipv6 = none_of_none ipv6_network c.aggregate_in_place-2.new.networks.items families.ipv6.items
    c.aggregate_in_place-2.ensures.no_longer (no_ipv6 families.ipv4.items families.ipv6.items h) in
    rw (ipv4, ipv6)

pub returns-clause-aggregate : goal.returns-clause-aggregate
returns-clause-aggregate c =
    let families = c.args.self.now in
    both_families families.ipv4.items c.aggregate_in_place.new.networks.items families.ipv6.items
    c.aggregate_in_place-2.new.networks.items c.aggregate_in_place.ensures.aggregate
    c.aggregate_in_place-2.ensures.aggregate
