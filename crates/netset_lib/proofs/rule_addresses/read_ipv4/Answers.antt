-- A word writes one address.
use Rattle.std.proofs.Common.{ap, sym, ◌∙◌, inl, subst}
use Rattle.ipnet_base.specs.Address.{ip_address}
use Rattle.ipnet_lists.specs.Entries.{IsAddressText}
use Rattle.ipnet_lists.proofs.EntryTexts.{some_of, none_of}
use Rattle.netset_lib.proofs.RuleAddressLaws.{ipv4_text, other_family}
use Rattle.netset_lib.proofs.rule_addresses.read_ipv4.Goals as goal

pub returns-in-Some-V4-clause-some : goal.returns-in-Some-V4-clause-some
returns-in-Some-V4-clause-some c =
    let g = c.args.grammar in
    let text = c.args.word.now in
    ipv4_text g text c.in-Some-V4.address
    (subst (λ z. IsAddressText g text (ip_address z)) c.in-Some-V4.field-0-is
    (some_of ip_address (IsAddressText g) text c.read_address.result c.in-Some-V4.field-0 c.read_address.ensures
    c.in-Some-V4.is))

pub returns-in-Some-V6-clause-none : goal.returns-in-Some-V6-clause-none
returns-in-Some-V6-clause-none c = λ none x k.
    let y = c.in-Some-V6.field-0 in
    other_family c.args.grammar c.args.word.now x (ip_address y)
    (some_of ip_address (IsAddressText c.args.grammar) c.args.word.now c.read_address.result y c.read_address.ensures
    c.in-Some-V6.is)
    (ap (λ z. (ip_address z).family) c.in-Some-V6.field-0-is) k

pub returns-in-None-clause-none : goal.returns-in-None-clause-none
returns-in-None-clause-none c = λ none x k.
    none_of ip_address (IsAddressText c.args.grammar) c.args.word.now c.read_address.result c.read_address.ensures
    (λ v e. let clash = sym e ∙ c.in-None.is in absurd cc) x (inl k)
