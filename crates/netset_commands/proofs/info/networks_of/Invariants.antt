-- whatever the networks of the other words are, those that were read come before them
use Rattle.std.proofs.Common.{◌++◌, List, drop, map}
use Rattle.ipnet_base.specs.Network.{Network}
use Rattle.ipnet.specs.NetworkOf.{ip_network}
use Rattle.netset_commands.specs.InfoWords.{AreNetworkWords}
use Rattle.netset_commands.proofs.info.networks_of.Given as goal

abbrev pub invariant-loop-word : goal.invariant-loop-word
invariant-loop-word l = (rest : List Network) → AreNetworkWords l.grammar (drop l.word-index l.words) rest
    → AreNetworkWords l.grammar l.words (map ip_network l.networks.items ++ rest)
