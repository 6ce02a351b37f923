-- The zones before those that the walk still yields are written.
use Rattle.std.proofs.Common.{◌≡◌, ◌++◌, true, length, map, string_bytes}
use Rattle.ipnet.specs.SubnetsLeft.{ip_subnets_left}
use Rattle.ipnet_info.specs.Facts.{items, zone_item}
use Rattle.ipnet_info.proofs.facts.push_zones.Given as goal

abbrev pub invariant-loop-zone : goal.invariant-loop-zone
invariant-loop-zone l =
    string_bytes l.text ++ items l.form l.is_first (map (zone_item l.form) (ip_subnets_left l.zone-iterator))
    ≡ string_bytes l.fn.text ++ items l.form true (map (zone_item l.form) (ip_subnets_left l.fn.walk))

abbrev pub decreases-loop-zone : goal.decreases-loop-zone
decreases-loop-zone l = length (ip_subnets_left l.zone-iterator)
