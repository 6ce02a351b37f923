use Rattle.std.proofs.Common.{refl}
use Rattle.ipnet_info.proofs.FactTexts.{then_}
use Rattle.ipnet_info.proofs.facts.push_single_facts.Goals as goal

pub returns : goal.returns
returns c =
    let hosts = c.in_ok-push_host_facts.ensures in (
      _,
      record { hosts = hosts.0; are_hosts = hosts.1; spelled = refl },
      then_ (then_ (then_ c.in_ok-push_in_form.ensures c.in_ok-push_network_facts.ensures) hosts.2)
          c.in_ok-push_number_facts.ensures,
    )
