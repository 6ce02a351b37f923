use Rattle.std.proofs.Common.{◌≡◌, ◌↔◌, IsTrue, sym, ap, subst, ◌∙◌}
use Rattle.ipnet_base.specs.Address.{IPv4, IPv6, ip_address}
use Rattle.ipnet.specs.declared.parser.Grammar.TheVariants.{Legacy}
use Rattle.ipnet_lists.specs.Causes.{IsMaskNumber}
use Rattle.ipnet_lists.specs.Entries.{IsAddressText}
use Rattle.ipnet_lists.proofs.CauseTexts.{mask_is, mask_not, mask_none}
use Rattle.ipnet_lists.proofs.EntryTexts.{some_of, none_of}
use Rattle.ipnet_lists.proofs.cause_words.is_mask_text.Goals as goal

pub returns-in-Some-V4 : goal.returns-in-Some-V4
returns-in-Some-V4 c =
    let x = c.in-Some-V4.field-0 in
    mask_is c.args.text.now (ip_address x)
    (some_of ip_address (IsAddressText Legacy) c.args.text.now c.parse_address.result x c.parse_address.ensures
    c.in-Some-V4.is)
    (ap (λ z. (ip_address z).family) c.in-Some-V4.field-0-is) c.is_mask.result
    (subst (λ z. IsTrue c.is_mask.result ↔ IsMaskNumber (ip_address z).number) (sym c.in-Some-V4.field-0-is)
    c.is_mask.ensures)

pub returns-in-Some-V6 : goal.returns-in-Some-V6
returns-in-Some-V6 c =
    let x = c.in-Some-V6.field-0 in
    mask_not c.args.text.now (ip_address x)
    (some_of ip_address (IsAddressText Legacy) c.args.text.now c.parse_address.result x c.parse_address.ensures
    c.in-Some-V6.is)
    (λ e. let clash : IPv6 ≡ IPv4 = ap (λ z. (ip_address z).family) (sym c.in-Some-V6.field-0-is) ∙ e in absurd cc)

pub returns-in-None : goal.returns-in-None
returns-in-None c =
    mask_none c.args.text.now
    (none_of ip_address (IsAddressText Legacy) c.args.text.now c.parse_address.result c.parse_address.ensures
    (λ v e. let clash = sym e ∙ c.in-None.is in absurd cc))
