-- If a word is not an IPv4 address, the text is not two of them.
use Rattle.std.proofs.Common.{refl, sym, subst}
use Rattle.ipnet_lists.specs.Entries.{IsIpv4Text}
use Rattle.netset_lib.proofs.rule_addresses.second_address.Goals as goal

pub returns-in-Some-clause-none : goal.returns-in-Some-clause-none
returns-in-Some-clause-none c = λ none two.
    c.read_ipv4-in-Some.ensures.none none two.second
    (subst (λ z. IsIpv4Text c.args.grammar z two.second) (sym c.cut_word.ensures.rest) two.writes_second)

pub returns-in-None-clause-none : goal.returns-in-None-clause-none
returns-in-None-clause-none c = λ none two.
    c.in-None.ensures.none refl two.first
    (subst (λ z. IsIpv4Text c.args.grammar z two.first) (sym c.cut_word.ensures.word) two.writes_first)
