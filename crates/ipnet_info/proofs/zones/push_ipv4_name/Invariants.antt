-- The labels from `index` on are written.
use Rattle.std.proofs.Common.{◌≡◌, ◌++◌, string_bytes}
use Rattle.ipnet_info.specs.Zones.{ipv4_labels}
use Rattle.ipnet_info.proofs.zones.push_ipv4_name.Given as goal

abbrev pub invariant-loop-index : goal.invariant-loop-index
invariant-loop-index l =
    string_bytes l.text ++ ipv4_labels l.index l.number ≡ string_bytes l.fn.text ++ ipv4_labels l.labels l.number
