-- The mask is the complement of a netmask.
use Rattle.std.proofs.Common.{◌≡◌, ◌≤◌, ◌-◌, refl, ap, ◌∙◌, arith, rules}
use Rattle.std.specs.Net.Addr.{ipv4_bits}
use Rattle.ipnet_base.specs.Address.{ipv4_address}
use Rattle.ipnet_base.proofs.AddressLaws.{bits_from_number}
use Rattle.ipnet.specs.NetworkOf.{ipv4_network}
use Rattle.netset_lib.proofs.RuleAddressLaws.{wildcarded, netmasked, not_either}
use Rattle.netset_lib.proofs.rule_addresses.wildcard_network.Goals as goal

pub returns-then-is_either_mask-clause-none : goal.returns-then-is_either_mask-clause-none
returns-then-is_either_mask-clause-none c = λ none n w.
    not_either n (ipv4_address c.args.address) (ipv4_address c.args.mask) w
    (c.is_either_mask.ensures.0 c.if-is_either_mask.true)

pub returns-in-Ok-clause-some : goal.returns-in-Ok-clause-some
returns-in-Ok-clause-some c =
    let fits : c.to_bits.result ≤ 4294967295 = search rules in
    let netmask : ipv4_bits c.from_bits-netmask.result ≡ 4294967295 - ipv4_bits c.args.mask =
    bits_from_number c.from_bits-netmask.result (4294967295 - c.to_bits.result) (omega arith)
    c.from_bits-netmask.ensures ∙ ap (λ n. 4294967295 - n) c.to_bits.ensures in
    wildcarded (ipv4_network c.in-Ok.network) (ipv4_address c.args.address) (ipv4_address c.args.mask)
    (ipv4_bits c.from_bits-netmask.result) refl refl (omega (arith, fits, c.to_bits.ensures)) netmask
    (λ either. let yes = c.is_either_mask.ensures.1 either in let is_not = c.if-is_either_mask.false in absurd cc)
    c.in-Ok.ensures.made

pub returns-in-Err-clause-none : goal.returns-in-Err-clause-none
returns-in-Err-clause-none c = λ none n w.
    let netmask : ipv4_bits c.from_bits-netmask.result ≡ 4294967295 - ipv4_bits c.args.mask =
    bits_from_number c.from_bits-netmask.result (4294967295 - c.to_bits.result) (omega arith)
    c.from_bits-netmask.ensures ∙ ap (λ n. 4294967295 - n) c.to_bits.ensures in
    c.in-Err.ensures.refused.0 refl n
    (netmasked n (ipv4_address c.args.address) (ipv4_address c.args.mask) (ipv4_bits c.from_bits-netmask.result) netmask
    w)
