-- The facts about the networks so far are written.
use Rattle.std.proofs.Common.{drop, map, string_bytes}
use Rattle.ipnet.specs.NetworkOf.{ip_network}
use Rattle.ipnet_info.proofs.AllFactsLaws.{WrittenBefore}
use Rattle.ipnet_info.proofs.all_facts.all_facts_text.Given as goal

abbrev pub invariant-loop-network : goal.invariant-loop-network
invariant-loop-network l = WrittenBefore l.form (map ip_network l.networks)
    (map ip_network (drop l.network-index l.networks)) l.is_first (string_bytes l.text)
