-- The reader of both families read one network or none, because a text writes at most one.
use Rattle.std.proofs.Common.{◌≡◌, ◌∙◌, sym, ap, refl, inr}
use Rattle.ipnet_base.specs.Address.{IPv4, IPv6}
use Rattle.ipnet.specs.NetworkOf.{ipv4_network, ipv6_network}
use Rattle.ipnet.proofs.WholeTexts.{one_network, of_ipv6, reads_ipv6}
use Rattle.ipnet.proofs.net.ipv6_net.Ipv6Net.parse_as.Goals as goal

pub returns-in_default : goal.returns-in_default
returns-in_default c = reads_ipv6 c.args.grammar c.args.text.now _ (λ n h. c.in_default.ensures.error.0 refl n (inr h))

-- the text writes only one network, and its family is the other one
pub returns-in-V4 : goal.returns-in-V4
returns-in-V4 c = reads_ipv6 c.args.grammar c.args.text.now _ λ n h.
    let same =
    one_network c.args.grammar c.args.text.now n (ipv4_network c.in-V4.field-0) (inr h)
    (rw c.in-V4.is at ((c.in-Ok.ensures.ok c.in-Ok.read).0 refl)) in
    let clash : IPv6 ≡ IPv4 = sym h.family ∙ ap (λ m. m.family) same in
    absurd cc

pub returns-in-V6 : goal.returns-in-V6
returns-in-V6 c = reads_ipv6 c.args.grammar c.args.text.now _
    (of_ipv6 c.args.grammar c.args.text.now (ipv6_network c.in-V6.net) refl
    (rw c.in-V6.is at ((c.in-Ok.ensures.ok c.in-Ok.read).0 refl)))
