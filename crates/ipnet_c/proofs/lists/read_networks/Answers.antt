use Rattle.std.proofs.Common.{[], map, ap, sym, subst}
use Rattle.ipnet.specs.Lines.{lines_of, AreNetworksOf}
use Rattle.ipnet.specs.NetworkOf.{ip_network}
use Rattle.ipnet.specs.declared.parser.Grammar.TheVariants.{Strict}
use Rattle.ipnet_c.proofs.lists.read_networks.Goals as goal

pub returns-clause-networks : goal.returns-clause-networks
returns-clause-networks c =
    let (networks, written, made) = c.in_ok-push_lines.ensures.networks in
    subst (AreNetworksOf Strict (lines_of c.args.text.now))
    (sym (made [] (ap (map ip_network) c.new-networks.ensures.items))) written
