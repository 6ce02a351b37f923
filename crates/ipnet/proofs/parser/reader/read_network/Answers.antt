-- The readers of both families follow the grammar; by the byte after the first digits, the other family reads nothing.
use Rattle.std.proofs.Common.{sym, subst, inl, inr}
use Rattle.std.specs.Net.Addr.{ipv4_bits, ipv6_bits}
use Rattle.ipnet.specs.NetworkTexts.{IsIpv4NetworkText, IsIpv6NetworkText}
use Rattle.ipnet.proofs.WholeTexts.{ipv4_none, ipv6_none, read_ipv6_network_sound}
use Rattle.ipnet.proofs.Ipv4Texts.{read_ipv4_network_sound}
use Rattle.ipnet.proofs.parser.reader.read_network.Goals as goal

pub returns-in_default : goal.returns-in_default
returns-in_default c =
    ipv4_none c.args.grammar c.args.text.now c.if-begins_dotted.ensures.dotted c.in_default.ensures.value

pub returns-in-Some : goal.returns-in-Some
unfolding ipv4_bits
returns-in-Some c =
    inl (subst (IsIpv4NetworkText c.args.grammar c.args.text.now) (sym c.new_assert.ensures)
    (read_ipv4_network_sound c.args.grammar c.args.text.now _ _ (sym c.in-Some.ensures.value)))

pub returns-in_default-ipv6_network : goal.returns-in_default-ipv6_network
returns-in_default-ipv6_network c =
    ipv6_none c.args.grammar c.args.text.now c.if-begins_dotted.ensures.other c.in_default-ipv6_network.ensures.value

pub returns-in-Some-ipv6_network : goal.returns-in-Some-ipv6_network
unfolding ipv6_bits
returns-in-Some-ipv6_network c =
    inr (subst (IsIpv6NetworkText c.args.grammar c.args.text.now) (sym c.new_assert-else-begins_dotted.ensures)
    (read_ipv6_network_sound c.args.grammar c.args.text.now _ _ (sym c.in-Some-ipv6_network.ensures.value)))
