use Rattle.std.proofs.Common.{◌≡◌, [], ◌++◌, map, take, string_bytes}
use Rattle.ipnet.specs.NetworkOf.{ip_network}
use Rattle.ipnet_text.specs.LineTexts.{text_of_lines}
use Rattle.ipnet_text.proofs.lines.lines_of_networks.Given as goal

-- the networks so far are written
abbrev pub invariant-loop-network : goal.invariant-loop-network
invariant-loop-network l =
    string_bytes l.text ≡ [] ++ text_of_lines (map ip_network (take l.network-index l.networks))
