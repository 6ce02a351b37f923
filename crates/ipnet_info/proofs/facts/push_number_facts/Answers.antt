use Rattle.std.proofs.Common.{rules, ◌≡◌, ◌∙◌, codes, decimal, ap}
use Rattle.ipnet_base.specs.Address.{ip_address}
use Rattle.ipnet.specs.NetworkOf.{ip_network}
use Rattle.ipnet.specs.NetworkParts.{own_address}
use Rattle.ipnet_info.specs.Digits.{hexadecimal_text}
use Rattle.ipnet_info.specs.Facts.{fact, full_fact}
use Rattle.ipnet_info.proofs.FactTexts.{then_, of_value}
use Rattle.ipnet_info.proofs.facts.push_number_facts.Goals as goal

pub returns : goal.returns
returns c =
    let form = c.args.form in
    let n = ip_network c.args.network.now in
    let own : ip_address c.addr-address.result ≡ own_address n = search rules in
    let number : c.as_str.result.now ≡ decimal n.number = c.as_str.ensures.value
    ∙ c.in_ok-decimal.ensures ∙ ap (λ a. decimal a.number) own in
    let hexadecimal : c.as_str-2.result.now ≡ hexadecimal_text (own_address n) = c.as_str-2.ensures.value
    ∙ c.in_ok-hexadecimal.ensures ∙ ap hexadecimal_text own in
    then_ (then_ (of_value (fact form (codes "decimal") (codes "decimal")) c.in_ok-push_fact.ensures number)
    (of_value (fact form (codes "hexadecimal") (codes "hexadecimal")) c.in_ok-push_fact-2.ensures hexadecimal))
    (of_value (λ a. full_fact form a.family a.number) c.in_ok-push_full_fact.ensures own)
