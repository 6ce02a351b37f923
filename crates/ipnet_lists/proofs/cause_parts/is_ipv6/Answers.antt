use Rattle.std.proofs.Common.{◌≡◌, sym, ap, ◌∙◌}
use Rattle.ipnet_base.specs.Address.{IPv4, IPv6, ip_address}
use Rattle.ipnet.specs.declared.parser.Grammar.TheVariants.{Legacy}
use Rattle.ipnet_lists.specs.Entries.{IsAddressText}
use Rattle.ipnet_lists.proofs.CauseTexts.{family_no, family_none}
use Rattle.ipnet_lists.proofs.EntryTexts.{some_of, none_of}
use Rattle.ipnet_lists.proofs.cause_parts.is_ipv6.Goals as goal

pub returns-in-Some-V4 : goal.returns-in-Some-V4
returns-in-Some-V4 c =
    family_no IPv6 c.args.text.now (ip_address c.in-Some-V4.field-0)
    (some_of ip_address (IsAddressText Legacy) c.args.text.now c.parse_address.result c.in-Some-V4.field-0
    c.parse_address.ensures c.in-Some-V4.is)
    (λ e.
    let clash : IPv4 ≡ IPv6 = ap (λ z. (ip_address z).family) (sym c.in-Some-V4.field-0-is) ∙ e in absurd cc)

pub returns-in-None : goal.returns-in-None
returns-in-None c =
    family_none IPv6 c.args.text.now
    (none_of ip_address (IsAddressText Legacy) c.args.text.now c.parse_address.result
    c.parse_address.ensures (λ v e. let clash = sym e ∙ c.in-None.is in absurd cc))
