-- Four octets with dots between them are an address (`FrontTexts`).
use Rattle.std.proofs.Common.{◌+◌, sym, subst, take}
use Rattle.ipnet.specs.AddressTexts.{IsIpv4AddressText}
use Rattle.ipnet.specs.declared.parser.Grammar.TheVariants.{Strict}
use Rattle.ipnet_text.proofs.FrontTexts.{address_at}
use Rattle.ipnet_text.proofs.front.ipv4_addr_at.Goals as goal

pub returns-clause-address : goal.returns-clause-address
returns-clause-address c =
    subst (IsIpv4AddressText Strict
    (take (c.in_ok-a.first + c.in_ok-b.second + c.in_ok-c.third + c.in_ok-d.fourth + 3) c.args.bytes.now))
    (sym c.new-address.ensures)
    (address_at c.args.bytes.now c.in_ok-a.first c.in_ok-b.second c.in_ok-c.third c.in_ok-d.fourth c.in_ok-a.a
    c.in_ok-b.b c.in_ok-c.c c.in_ok-d.d c.requires c.in_ok-a.ensures.few c.in_ok-b.ensures.few c.in_ok-c.ensures.few
    c.in_ok-a.ensures.octet c.in_ok-a.ensures.end c.in_ok-b.ensures.octet c.in_ok-b.ensures.end
    c.in_ok-c.ensures.octet c.in_ok-c.ensures.end c.in_ok-d.ensures.octet)
