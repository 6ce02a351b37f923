-- An address, "/" and digits are a network (`FrontTexts`).
use Rattle.std.proofs.Common.{◌∷◌, ◌++◌, sym, subst, take}
use Rattle.ipnet.specs.NetworkTexts.{IsIpv4NetworkText}
use Rattle.ipnet.specs.declared.parser.Grammar.TheVariants.{Strict}
use Rattle.ipnet_text.proofs.FrontTexts.{network_text}
use Rattle.ipnet_text.proofs.front.ipv4_network_after.Goals as goal

pub returns-clause-network : goal.returns-clause-network
returns-clause-network c = λ text h.
    let digits = take c.in_ok-prefix_len.digits c.args.bytes.now in
    subst (IsIpv4NetworkText Strict (text ++ 47 ∷ digits)) (sym c.new_assert-network.ensures)
    (network_text text digits c.args.address c.in_ok-prefix_len.prefix_len h c.in_ok-prefix_len.ensures.octet
    c.if-prefix_len-gt32.false)
