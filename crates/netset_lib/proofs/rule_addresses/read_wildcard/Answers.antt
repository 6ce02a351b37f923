-- The words write one address and one mask.
use Rattle.std.proofs.Common.{refl}
use Rattle.ipnet_base.specs.Address.{ipv4_address}
use Rattle.netset_lib.proofs.RuleAddressLaws.{no_wildcard}
use Rattle.netset_lib.proofs.rule_addresses.read_wildcard.Goals as goal

pub returns-in_default-clause-none : goal.returns-in_default-clause-none
returns-in_default-clause-none c = λ none n w. c.in_default.ensures.none refl w.address w.writes_address

pub returns-in_default-read_ipv4-clause-none : goal.returns-in_default-read_ipv4-clause-none
returns-in_default-read_ipv4-clause-none c = λ none n w. c.in_default-read_ipv4.ensures.none refl w.mask w.writes_mask

pub returns-clause-none : goal.returns-clause-none
returns-clause-none c = λ none n w.
    no_wildcard c.args.grammar c.args.address.now c.args.mask.now (ipv4_address c.in-Some.ip)
    (ipv4_address c.in-Some-read_ipv4.wildcard) c.in-Some.ensures.some c.in-Some-read_ipv4.ensures.some
    (c.wildcard_network.ensures.none none) n w
