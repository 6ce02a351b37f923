use Rattle.std.proofs.Common.{◌≡◌, [], ◌++◌, map, take, string_bytes}
use Rattle.ipnet.specs.NetworkOf.{ipv4_network, ipv6_network}
use Rattle.ipnet_text.specs.LineTexts.{text_of_lines}
use Rattle.ipnet_tool.proofs.tool.printed.Given as goal

abbrev pub invariant-loop-network : goal.invariant-loop-network
invariant-loop-network l =
    string_bytes l.text ≡ [] ++ text_of_lines (map ipv4_network (take l.network-index l.network-items))

abbrev pub invariant-loop-network-2 : goal.invariant-loop-network-2
invariant-loop-network-2 l =
    string_bytes l.text ≡ text_of_lines (map ipv4_network l.families.ipv4.items)
    ++ text_of_lines (map ipv6_network (take l.network-index l.network-items))
