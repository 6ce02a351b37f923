use Rattle.std.proofs.Common.{rules, ◌≡◌, codes}
use Rattle.ipnet_base.specs.Address.{ip_address}
use Rattle.ipnet_base.specs.Network.{truncation}
use Rattle.ipnet.specs.CanonicalTexts.{canonical_text}
use Rattle.ipnet.specs.NetworkOf.{ip_network}
use Rattle.ipnet.specs.NetworkParts.{own_address, netmask, hostmask}
use Rattle.ipnet_info.specs.Facts.{fact, address_fact}
use Rattle.ipnet_info.proofs.FactTexts.{then_, of_value}
use Rattle.ipnet_info.proofs.facts.push_network_facts.Goals as goal

pub returns : goal.returns
returns c =
    let form = c.args.form in
    let n = ip_network c.args.network.now in
    let whole : c.as_str.result.now ≡ canonical_text (truncation n) = search rules in
    let own : ip_address c.addr.result ≡ own_address n = search rules in
    let mask : ip_address c.netmask.result ≡ netmask n = search rules in
    let wildcard : ip_address c.hostmask.result ≡ hostmask n = search rules in
    then_ (then_ (then_ (of_value (fact form (codes "network") (codes "network")) c.in_ok-push_fact.ensures
    whole) (of_value (address_fact form (codes "address") (codes "address")) c.in_ok-push_address_fact.ensures
    own)) (of_value (address_fact form (codes "netmask") (codes "netmask")) c.in_ok-push_address_fact-2.ensures
    mask)) (of_value (address_fact form (codes "wildcard mask") (codes "wildcard_mask"))
    c.in_ok-push_address_fact-3.ensures wildcard)
