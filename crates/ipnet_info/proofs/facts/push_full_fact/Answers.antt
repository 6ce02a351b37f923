use Rattle.std.proofs.Common.{◌≡◌, OnOk, subst, sym, string_bytes}
use Rattle.ipnet_base.specs.Address.{ip_address}
use Rattle.ipnet_info.specs.Facts.{IsAppended, full_fact}
use Rattle.ipnet_info.proofs.facts.push_full_fact.Goals as goal

pub returns-in-V6 : goal.returns-in-V6
returns-in-V6 c =
    subst (λ a. OnOk c.push_full_address.result (IsAppended (string_bytes c.args.text.now)
    (string_bytes c.push_full_address.new.text) (full_fact c.args.form (ip_address a).family (ip_address a).number)))
    (sym c.in-V6.is) c.push_full_address.ensures
