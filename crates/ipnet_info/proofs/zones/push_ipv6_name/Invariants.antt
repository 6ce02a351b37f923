-- The labels from `index` on are written.
use Rattle.std.proofs.Common.{◌≡◌, ◌++◌, string_bytes}
use Rattle.ipnet_info.specs.Zones.{ipv6_labels}
use Rattle.ipnet_info.proofs.zones.push_ipv6_name.Given as goal

abbrev pub invariant-loop-index : goal.invariant-loop-index
invariant-loop-index l =
    string_bytes l.text ++ ipv6_labels l.index l.number ≡ string_bytes l.fn.text ++ ipv6_labels l.labels l.number
