use Rattle.std.proofs.Common.{◌≡◌, ◌∙◌, ◌^◌, codes, decimal, ap, refl}
use Rattle.ipnet_base.specs.Address.{ip_address}
use Rattle.ipnet_base.specs.Network.{host_bits}
use Rattle.ipnet.specs.NetworkOf.{ip_network}
use Rattle.ipnet_info.specs.Facts.{fact, address_fact, counted}
use Rattle.ipnet_info.proofs.FactTexts.{then_, of_value, address_count_is, host_count_is}
use Rattle.ipnet_info.proofs.facts.push_host_facts.Goals as goal

pub returns : goal.returns
returns c =
    let form = c.args.form in
    let n = ip_network c.args.network.now in
    let first = ip_address c.first_host.result in
    let last = ip_address c.last_host.result in
    let addresses : c.as_str.result.now ≡ decimal (2 ^ host_bits n) = c.as_str.ensures.value
    ∙ c.in_ok-addresses.ensures
    ∙ ap decimal
    (address_count_is n c.address_count.result c.address_count.ensures.some c.address_count.ensures.none) in
    let hosts : c.as_str-2.result.now ≡ decimal (counted c.host_count.result) = c.as_str-2.ensures.value
    ∙ c.in_ok-hosts.ensures in
    let spelled =
    then_ (then_ (then_ c.in_ok-push_address_fact.ensures c.in_ok-push_address_fact-2.ensures) (of_value (fact
    form (codes "addresses") (codes "addresses")) c.in_ok-push_fact.ensures addresses)) (of_value (fact form
    (codes "hosts") (codes "hosts")) c.in_ok-push_fact-2.ensures hosts) in (
      _,
      record {
        first = first;
        last = last;
        hosts = counted c.host_count.result;
        is_first = c.first_host.ensures;
        is_last = c.last_host.ensures;
        is_count = host_count_is n c.host_count.result c.host_count.ensures.some c.host_count.ensures.none;
        spelled = refl;
      },
      spelled,
    )
